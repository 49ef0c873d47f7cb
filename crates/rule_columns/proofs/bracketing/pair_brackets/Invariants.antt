use Rattle.std.proofs.Common.{◌≡◌, length, take}
use Rattle.rule_columns.specs.Passes.{by_n0}
use Rattle.rule_columns.proofs.EachPair.{ArePaired}
use Rattle.rule_columns.proofs.EachSequence.{IsRewritten}
use Rattle.rule_columns.proofs.bracketing.pair_brackets.Given as goal

abbrev pub invariant-loop-k : goal.invariant-loop-k
invariant-loop-k g l = record {
  classes : IsRewritten (by_n0 l.para l.before) (take l.k l.sequences.all) l.initial.classes l.classes;
  pairs : ArePaired l.para l.initial.classes (take l.k l.sequences.all) l.pairs;
  room : length l.pairs ≡ l.sequences.extent;
}
