use Rattle.std.proofs.Common.{arith, ap, ◌∙◌, slice_index, length}
use Rattle.units.specs.Classes.{class_at}
use Rattle.units.specs.Weak.{by_w4, after_w4}
use Rattle.sequences.specs.Links.{ArePositions}
use Rattle.resolve.proofs.Passes.{pass_end}
use Rattle.rule_columns.proofs.Separators.{separator_start, separator_write}
use Rattle.rule_columns.proofs.weak.w4.Goals as goal

pub loop-k-init : goal.loop-k-init
loop-k-init g c =
    let fit : ArePositions c.as_slice-positions.result.now (length c.args.classes.now) =
    rw (c.as_slice-positions.ensures.value, c.requires) c.as_slice-positions.ensures.rise in
    (separator_start c.as_slice-positions.result.now c.args.classes.now fit, omega arith)

pub loop-k-preserved : goal.loop-k-preserved
loop-k-preserved g c = (
  separator_write c.loop-k.invariant.0 (omega arith) c.by_w4.result
      (c.by_w4.ensures ∙ ap
      (by_w4 c.loop-k.before (class_at c.loop-k.classes (slice_index c.as_slice-positions.result.now c.loop-k.k)))
      c.class_after.ensures),
  omega arith,
)

pub returns-clause-classes : goal.returns-clause-classes
returns-clause-classes g c =
    rw (← c.as_slice-positions.ensures.value) (pass_end after_w4 c.loop-k.invariant.0.pass (omega arith) (omega arith))
