use Rattle.std.specs.Prelude.{◌≡◌, length, take}
use Rattle.rule_columns.proofs.EachLevel.{AreRaised}
use Rattle.rule_columns.proofs.implicit_levels.implicit_levels.Given as goal

abbrev pub invariant-loop-k : goal.invariant-loop-k
invariant-loop-k g l = length l.levels.items ≡ l.sequences.extent ×
    AreRaised l.classes (take l.k l.sequences.all) l.levels.items
