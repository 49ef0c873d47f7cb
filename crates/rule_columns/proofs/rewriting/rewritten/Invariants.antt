use Rattle.std.specs.Prelude.{◌≡◌, length, take}
use Rattle.rule_columns.specs.Passes.{by_pass}
use Rattle.rule_columns.proofs.EachSequence.{IsRewritten}
use Rattle.rule_columns.proofs.rewriting.rewritten.Given as goal

abbrev pub invariant-loop-k : goal.invariant-loop-k
invariant-loop-k g l = length l.classes.items ≡ l.sequences.extent ×
    IsRewritten (by_pass l.pass) (take l.k l.sequences.all) l.before l.classes.items
