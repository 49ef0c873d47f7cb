use Rattle.std.proofs.Common.{◌≡◌, take}
use Rattle.units.specs.Layout.{current_of}
use Rattle.rule_columns.proofs.current.current_classes.Given as goal

abbrev pub invariant-loop-p : goal.invariant-loop-p
invariant-loop-p l = l.classes.items ≡ current_of (take l.p l.explicit)
