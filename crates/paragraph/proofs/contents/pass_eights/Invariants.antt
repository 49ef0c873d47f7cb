use Rattle.std.proofs.Common.{◌≡◌, ◌+◌, ◌-◌, ◌≤◌, length}
use Rattle.paragraph.specs.Contents.{IsFront}
use Rattle.paragraph.proofs.contents.pass_eights.Given as goal

abbrev pub invariant-loop-more : goal.invariant-loop-more
invariant-loop-more g l = record {
  later : l.start ≤ l.p;
  front : IsFront l.p l.classes l.text;
  steps : l.steps + l.start ≡ l.fn.steps + l.p;
}

abbrev pub decreases-loop-more : goal.decreases-loop-more
decreases-loop-more g l = length l.text - l.p
