use Rattle.std.proofs.Common.{arith, rules, length}
use Rattle.units.specs.Classes.{is_strong}
use Rattle.units.specs.Weak.{by_w7, after_w7}
use Rattle.sequences.specs.Links.{ArePositions}
use Rattle.resolve.proofs.Passes.{pass_end}
use Rattle.rule_columns.proofs.RulePasses.{nearest_pass_start, nearest_pass_here, nearest_pass_same}
use Rattle.rule_columns.proofs.weak.w7.Goals as goal
use Rattle.rule_columns.proofs.weak.w7.Goals.{then-is_strong, else-is_strong}

pub loop-position-init : goal.loop-position-init
loop-position-init g c =
    let fit : ArePositions c.as_slice-positions.result.now (length c.args.classes.now) =
    rw (c.as_slice-positions.ensures.value, c.requires) c.as_slice-positions.ensures.rise in (
      nearest_pass_start by_w7 is_strong c.args.s.now.sos c.sos-strong.result c.sos-strong.ensures
          c.as_slice-positions.result.now c.args.classes.now fit,
      omega arith,
    )

pub loop-position-preserved : goal.loop-position-preserved
loop-position-preserved g c = (
  elim c.if-is_strong.branch [
    | then-is_strong w ↦
        rw w.strong-is (nearest_pass_here c.loop-position.invariant.0 (omega arith) c.by_w7.result (search rules)
        (search rules))
    | else-is_strong w ↦
        rw w.strong-is (nearest_pass_same c.loop-position.invariant.0 (omega arith) c.by_w7.result (search rules)
        (search rules))
  ],
  omega arith,
)

pub returns-clause-classes : goal.returns-clause-classes
returns-clause-classes g c =
    rw (← c.as_slice-positions.ensures.value) (pass_end (after_w7 c.args.s.now.sos) c.loop-position.invariant.0.pass
    (omega arith) (omega arith))
