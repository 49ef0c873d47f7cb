use Rattle.std.proofs.Common.{◌≡◌, ◌+◌, take}
use Rattle.std.specs.Prelude.{find, None}
use Rattle.units.specs.Classes.{classes_of, is_strong}
use Rattle.paragraph.proofs.contents.search_side.Given as goal

abbrev pub invariant-loop-k : goal.invariant-loop-k
invariant-loop-k g l = record {
  strong : find is_strong (classes_of (take l.k l.text)) ≡ None;
  steps : l.steps ≡ l.initial.steps + l.k;
}
