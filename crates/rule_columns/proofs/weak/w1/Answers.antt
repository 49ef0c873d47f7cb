use Rattle.std.proofs.Common.{arith, rules, length}
use Rattle.units.specs.Classes.{is_base}
use Rattle.units.specs.Weak.{by_w1, after_w1}
use Rattle.sequences.specs.Links.{ArePositions}
use Rattle.resolve.proofs.Passes.{pass_end}
use Rattle.rule_columns.proofs.RulePasses.{nearest_pass_start, nearest_pass_here, nearest_pass_same}
use Rattle.rule_columns.proofs.weak.w1.Goals as goal
use Rattle.rule_columns.proofs.weak.w1.Goals.{then-is_base, else-is_base}

pub loop-position-init : goal.loop-position-init
loop-position-init g c =
    let fit : ArePositions c.as_slice-positions.result.now (length c.args.classes.now) =
    rw (c.as_slice-positions.ensures.value, c.requires) c.as_slice-positions.ensures.rise in (
      nearest_pass_start by_w1 is_base c.args.s.now.sos c.sos-base.result c.sos-base.ensures
          c.as_slice-positions.result.now c.args.classes.now fit,
      omega arith,
    )

pub loop-position-preserved : goal.loop-position-preserved
loop-position-preserved g c = (
  elim c.if-is_base.branch [
    | then-is_base w ↦ rw w.base-is (nearest_pass_here c.loop-position.invariant.0 (omega arith) c.by_w1.result
        (search rules) (search rules))
    | else-is_base w ↦ rw w.base-is (nearest_pass_same c.loop-position.invariant.0 (omega arith) c.by_w1.result
        (search rules) (search rules))
  ],
  omega arith,
)

pub returns-clause-classes : goal.returns-clause-classes
returns-clause-classes g c =
    rw (← c.as_slice-positions.ensures.value) (pass_end (after_w1 c.args.s.now.sos) c.loop-position.invariant.0.pass
    (omega arith) (omega arith))
