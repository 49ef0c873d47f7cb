use Rattle.std.proofs.Common.{◌≡◌, ◌+◌, take}
use Rattle.std.specs.Prelude.{find, Some}
use Rattle.units.specs.Classes.{classes_of, is_strong}
use Rattle.paragraph.specs.Contents.{IsFront}
use Rattle.paragraph.proofs.contents.scan_far.Given as goal

abbrev pub invariant-loop-p : goal.invariant-loop-p
invariant-loop-p g l = record {
  front : IsFront l.p l.classes l.text;
  strong : find is_strong (classes_of (take l.p l.text)) ≡ Some l.fn.strong;
  steps : l.steps + l.start ≡ l.fn.steps + l.p;
}
