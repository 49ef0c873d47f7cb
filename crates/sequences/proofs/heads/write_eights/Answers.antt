use Rattle.std.proofs.Common.{◌≡◌, ◌+◌, ◌-◌, ◌∙◌, ◌++◌, ℕ, take, ap, arith}
use Rattle.sequences.specs.Blocks.{LeadOn}
use Rattle.sequences.specs.Links.{link_at, linked}
use Rattle.sequences.proofs.Links.{stretch_eight, remaining_eight, pushed_eight}
use Rattle.sequences.proofs.heads.write_eights.Goals as goal

pub loop-lead_on-init : goal.loop-lead_on-init
loop-lead_on-init g c =
    let first : ℕ = c.args.first in
    let none : c.args.at + (first - first) ≡ c.args.at = omega arith in
    record {
      within = c.lead_on_eight-lead_on.ensures.within;
      lead = c.lead_on_eight-lead_on.ensures.linked;
      stretch = record { later = omega arith; within = c.requires.first; each = λ p low high. absurd (omega arith) };
      column = ap (λ (k : ℕ). take k c.args.column.now ++ linked c.args.links.now (link_at c.args.links.now first)) none;
      rest = omega arith;
      steps = omega arith;
    }

pub write_eight-requires-clause-room : goal.write_eight-requires-clause-room
write_eight-requires-clause-room g c =
    let l = c.loop-lead_on in
    let links = c.args.links.now in
    let on : LeadOn links l.p (l.p + 8) = l.invariant.lead c.loop-lead_on-test.true in
    omega (
      arith,
      c.requires.room,
      l.invariant.rest,
      remaining_eight links c.requires.linked c.args.first l.p l.invariant.stretch on,
      l.auto.column,
    )

pub lead_on_eight-lead_on-requires-in-loop-lead_on-clause-here : goal.lead_on_eight-lead_on-requires-in-loop-lead_on-clause-here
lead_on_eight-lead_on-requires-in-loop-lead_on-clause-here g c =
    let l = c.loop-lead_on in
    let next = stretch_eight c.args.links.now c.requires.linked c.args.first l.p l.invariant.stretch
    (l.invariant.lead c.loop-lead_on-test.true) in next.within

pub loop-lead_on-preserved : goal.loop-lead_on-preserved
loop-lead_on-preserved g c =
    let l = c.loop-lead_on in
    let links = c.args.links.now in
    let first : ℕ = c.args.first in
    let p : ℕ = l.p in
    let s = l.invariant.stretch in
    let on : LeadOn links p (p + 8) = l.invariant.lead c.loop-lead_on-test.true in
    let written = c.write_eight.ensures in
    let at : ℕ = c.args.at + (p - first) in
    let more : c.args.at + (p + 8 - first) ≡ at + 8 = omega (arith, s.later) in
    record {
      within = c.lead_on_eight-lead_on-in-loop-lead_on.ensures.within;
      lead = c.lead_on_eight-lead_on-in-loop-lead_on.ensures.linked;
      stretch = stretch_eight links c.requires.linked first p s on;
      column = pushed_eight links c.requires.linked first p s on _ (take at l.column) _ l.invariant.column
          (ap (λ (k : ℕ). take k c.write_eight.new.column) more ∙ written.column);
      rest = omega (arith, more, l.invariant.rest, remaining_eight links c.requires.linked first p s on);
      steps = omega (arith, written.steps, l.invariant.steps);
    }
