use Rattle.std.proofs.Common.{◌≡◌, ◌≤◌, ◌+◌, length}
use Rattle.units.specs.Classes.{classes_of}
use Rattle.lines.specs.LineEnds.{AreLineEnds, BreaksArePassed, paragraph_start}
use Rattle.lines.proofs.recutting.cut_text.Given as goal

abbrev pub invariant-loop-paragraph : goal.invariant-loop-paragraph
invariant-loop-paragraph g l = record {
  begins : l.start ≡ paragraph_start l.para_ends l.paragraph;
  passed : BreaksArePassed l.at l.cut.passed l.start;
  ends : AreLineEnds (classes_of l.text) l.at l.cut.lines l.start l.bounds;
  few_passed : l.cut.passed ≤ l.start;
  few_lines : l.cut.lines ≤ l.start;
  few : l.paragraph ≤ l.start;
  inside : l.start ≤ length l.text;
  steps : l.steps ≡ l.initial.steps + l.paragraph + l.cut.lines;
}
