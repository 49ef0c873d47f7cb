use Rattle.std.proofs.Common.{arith, set, ap, ◌≡◌, ◌+◌, ◌-◌, ◌<◌, ◌∙◌, ℕ, List, length, take, refl, inl, inr, [], ◌∷◌, ◌++◌}
use Rattle.std.proofs.lemmas.Bool.{cases_eq}
use Rattle.std.proofs.lemmas.List.{length-set, take_more_set}
use Rattle.sequences.specs.Links.{link_at, linked}
use Rattle.sequences.proofs.Links.{linked-some, pushed_start, pushed_to, pushed_within, pushed_step, pushed_more}
use Rattle.sequences.proofs.heads.write_few.Goals as goal

pub bounds-column-start : goal.bounds-column-start
bounds-column-start g c =
    omega (
      arith,
      c.requires.room,
      ap length (linked-some c.args.links.now c.args.first c.requires.linked c.requires.first),
    )

pub loop-last-init : goal.loop-last-init
loop-last-init g c =
    let links = c.args.links.now in
    let first : ℕ = c.args.first in
    let start : ℕ = c.args.start in
    let column : List ℕ = c.args.column.now in
    let step = linked-some links first c.requires.linked c.requires.first in
    let room : start < length column = omega (arith, c.requires.room, ap length step) in
    let one : start + (first - first) + 1 ≡ start + 1 = omega arith in
    let all = ap (λ (k : ℕ). take k (set column start first) ++ linked links (link_at links first)) one ∙
    pushed_start links c.requires.linked first start c.requires.first column room in
    record {
      stretch = record { later = omega arith; within = c.requires.first; each = λ p low high. absurd (omega arith) };
      pushed = pushed_to links c.requires.linked _ _ first all _ refl;
      rest = omega (arith, ap length step);
      steps = omega (arith, c.tick.ensures);
    }

pub bounds-column-start-in-loop-last : goal.bounds-column-start-in-loop-last
bounds-column-start-in-loop-last g c =
    let l = c.loop-last in
    let step = pushed_step c.requires.linked l.invariant.pushed (l.last + 1) (c.leads_on.ensures.0 c.if-leads_on.true) in
    omega (
      arith,
      l.invariant.stretch.later,
      c.requires.room,
      l.invariant.rest,
      ap length step,
      l.auto.column,
      length-set c.args.column.now c.args.start c.args.first,
    )

pub loop-last-preserved : goal.loop-last-preserved
loop-last-preserved g c =
    let l = c.loop-last in
    let p : ℕ = l.last in
    let w = l.invariant.pushed in
    let e = c.leads_on.ensures.0 c.if-leads_on.true in
    let step = pushed_step c.requires.linked w (p + 1) e in
    let k : ℕ = c.args.start + (p + 1 - c.args.first) in
    let same : k ≡ c.args.start + (p - c.args.first) + 1 = omega (arith, l.invariant.stretch.later) in
    let room : k < length l.column = omega (
      arith,
      same,
      c.requires.room,
      l.invariant.rest,
      ap length step,
      l.auto.column,
      length-set c.args.column.now c.args.start c.args.first,
    ) in
    record {
      stretch = record {
        later = omega (arith, l.invariant.stretch.later);
        within = pushed_within c.requires.linked w (p + 1) e;
        each = λ q low high. elim (cases_eq q p) [
          | inl same ↦ rw same e
          | inr other ↦ l.invariant.stretch.each q low (omega arith)
        ];
      };
      pushed = pushed_more c.requires.linked w (p + 1) e _ (take_more_set l.column k (p + 1) room ∙
          ap (λ (n : ℕ). take n l.column ++ (p + 1) ∷ []) same) _ refl;
      rest = omega (arith, same, l.invariant.rest, ap length step);
      steps = omega (arith, c.tick-in-loop-last.ensures, l.invariant.steps);
    }
