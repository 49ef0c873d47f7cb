use Rattle.std.proofs.Common.{arith, rules, length}
use Rattle.units.specs.Weak.{by_w3, after_w3}
use Rattle.sequences.specs.Links.{ArePositions}
use Rattle.resolve.proofs.Passes.{pass_end}
use Rattle.rule_columns.proofs.RulePasses.{each_pass_start, each_pass_write}
use Rattle.rule_columns.proofs.weak.w3.Goals as goal

pub loop-position-init : goal.loop-position-init
loop-position-init g c =
    let fit : ArePositions c.as_slice-positions.result.now (length c.args.classes.now) =
    rw (c.as_slice-positions.ensures.value, c.requires) c.as_slice-positions.ensures.rise in
    (each_pass_start by_w3 c.as_slice-positions.result.now c.args.classes.now fit, omega arith)

pub loop-position-preserved : goal.loop-position-preserved
loop-position-preserved g c =
    (each_pass_write by_w3 c.loop-position.invariant.0 (omega arith) c.by_w3.result (search rules), omega arith)

pub returns-clause-classes : goal.returns-clause-classes
returns-clause-classes g c =
    rw (← c.as_slice-positions.ensures.value) (pass_end after_w3 c.loop-position.invariant.0 (omega arith)
    (omega arith))
