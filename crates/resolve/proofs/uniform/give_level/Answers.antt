use Rattle.std.proofs.Common.{ℕ, List, Some, Option, arith, ap, sym, subst, ◌∙◌, length}
use Rattle.sequences.specs.Links.{ArePositions}
use Rattle.resolve.specs.Raised.{resolved_at}
use Rattle.resolve.proofs.Along.{along_none, along_next}
use Rattle.resolve.proofs.UniformSequences.{given_level, others_unchanged, written_level}
use Rattle.resolve.proofs.uniform.give_level.Goals as goal

pub loop-k-init : goal.loop-k-init
loop-k-init g c = record {
  levels = along_none c.as_slice-positions.result.now 0 (Some c.level-level.result) c.args.levels.now;
  steps = omega arith;
}

pub loop-k-preserved : goal.loop-k-preserved
loop-k-preserved g c =
    let l = c.loop-k in
    record {
      levels = along_next c.as_slice-positions.result.now (Some c.level-level.result) c.args.levels.now (omega arith)
          l.invariant.levels;
      steps = omega (arith, c.tick.ensures, l.invariant.steps);
    }

pub returns-clause-levels : goal.returns-clause-levels
returns-clause-levels g c = λ p within.
    let s = c.args.s.now in
    let old : List (Option ℕ) = c.args.levels.now in
    let fits : ArePositions s.positions (length old) =
    subst (ArePositions s.positions) (sym c.requires) c.as_slice-positions.ensures.rise in
    ap (λ (levels : List (Option ℕ)). resolved_at levels p) (written_level _ s.positions c.loop-k.k s.level _ old _ c.loop-k.invariant.levels (omega arith)
    c.as_slice-positions.ensures.value c.level-level.ensures.value)
    ∙ given_level s.level s.positions old fits p within

pub returns-clause-others : goal.returns-clause-others
returns-clause-others g c = λ p none.
    let s = c.args.s.now in
    let old : List (Option ℕ) = c.args.levels.now in
    let fits : ArePositions s.positions (length old) =
    subst (ArePositions s.positions) (sym c.requires) c.as_slice-positions.ensures.rise in
    ap (λ (levels : List (Option ℕ)). resolved_at levels p) (written_level _ s.positions c.loop-k.k s.level _ old _ c.loop-k.invariant.levels (omega arith)
    c.as_slice-positions.ensures.value c.level-level.ensures.value)
    ∙ others_unchanged s.level s.positions old fits p none
