use Rattle.std.proofs.Common.{◌≡◌, ◌+◌, ◌≤◌, take}
use Rattle.std.specs.Prelude.{find, Some}
use Rattle.units.specs.Classes.{classes_of, is_strong}
use Rattle.paragraph.specs.Contents.{IsFront}
use Rattle.paragraph.proofs.contents.scan_near.Given as goal

abbrev pub invariant-loop-position : goal.invariant-loop-position
invariant-loop-position g l = record {
  later : l.start ≤ l.position;
  front : IsFront l.position l.classes l.text;
  strong : find is_strong (classes_of (take l.position l.text)) ≡ Some l.fn.strong;
  steps : l.steps + l.start ≡ l.fn.steps + l.position;
}
