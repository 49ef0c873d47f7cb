use Rattle.std.proofs.Common.{◌-◌, length}
use Rattle.units.specs.Classes.{classes_of}
use Rattle.rule_columns.proofs.Outside.{IsUndecided}
use Rattle.rule_columns.proofs.deciding.first_strong.Given as goal

abbrev pub invariant-loop-p : goal.invariant-loop-p
invariant-loop-p l = IsUndecided (classes_of l.para) l.p

abbrev pub decreases-loop-p : goal.decreases-loop-p
decreases-loop-p l = length l.para - l.p
