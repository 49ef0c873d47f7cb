use Rattle.std.proofs.Common.{arith, false, ap₂, sym, ◌∙◌, ◌&&◌, not}
use Rattle.units.specs.Positions.{same_position}
use Rattle.report.specs.ReadExpected.{is_compared}
use Rattle.report.proofs.ReadLevels.{level-passed, levels-end}
use Rattle.report.proofs.comparing.differing_level.Goals as goal

pub loop-i-preserved : goal.loop-i-preserved
loop-i-preserved c =
    c.loop-i.invariant
    ∙ level-passed c.args.compared c.args.defined.now c.args.claimed.now c.loop-i.i c.index-defined-i.result
    c.index-claimed-i.result
    (omega arith) (omega arith)
    (ap₂ (λ claimed level. is_compared c.args.compared level && not (same_position claimed level))
    (sym c.index-claimed-i.is) (sym c.index-defined-i.is)
    ∙ sym c.is_other.ensures ∙ c.if-is_other.false)

pub returns-else-claimed-defined : goal.returns-else-claimed-defined
returns-else-claimed-defined c =
    levels-end c.args.compared c.args.defined.now c.args.claimed.now c.min-shorter.result c.loop-i.i
    c.min-shorter.ensures (omega arith) (omega arith) c.if-claimed-defined.false c.loop-i.invariant
