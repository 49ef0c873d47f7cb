use Rattle.std.proofs.Common.{◌≡◌, drop}
use Rattle.report.proofs.ReadLevels.{difference}
use Rattle.report.proofs.comparing.differing_level.Given as goal

abbrev pub invariant-loop-i : goal.invariant-loop-i
invariant-loop-i l =
    difference l.compared l.defined l.claimed 0 ≡ difference l.compared (drop l.i l.defined) (drop l.i l.claimed) l.i
