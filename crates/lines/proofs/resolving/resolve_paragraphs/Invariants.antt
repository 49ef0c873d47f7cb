use Rattle.std.proofs.Common.{◌≡◌, ◌<◌, ◌≤◌, ◌+◌, ◌-◌, ◌*◌, drop, length, take, true}
use Rattle.std.specs.Prelude.{◌&&◌}
use Rattle.std.specs.List.{list_all}
use Rattle.units.specs.Classes.{classes_of}
use Rattle.units.specs.Paragraphs.{paragraphs_of}
use Rattle.paragraph.specs.Contents.{IsFirstOf}
use Rattle.lines.specs.Unchanged.{each_keeps_level, keeps_own_level}
use Rattle.lines.specs.LineEnds.{AreLineEnds, AreParagraphEnds, BreaksArePassed}
use Rattle.lines.specs.Spaces.{has_segments}
use Rattle.lines.specs.StepBounds.{uniform_text_steps, text_steps}
use Rattle.lines.proofs.TextLevels.{IsWritten}
use Rattle.lines.proofs.resolving.resolve_paragraphs.Given as goal

abbrev pub invariant-loop-start : goal.invariant-loop-start
invariant-loop-start g l = record {
  written : IsWritten l.options.limits l.text l.options.direction l.start (take l.paragraphs l.paras) l.levels
      (paragraphs_of (drop l.start l.text));
  known : (l.uniform && list_all (keeps_own_level l.options.direction) (paragraphs_of (drop l.start l.text))) ≡
      each_keeps_level l.text l.options.direction;
  segments : l.segmented ≡ has_segments (take l.start l.text);
  passed : BreaksArePassed l.at l.cut.passed l.start;
  ends : AreLineEnds (classes_of l.text) l.at l.cut.lines l.start l.bounds;
  para_ends : AreParagraphEnds (classes_of l.text) (take l.paragraphs l.para_ends) l.start;
  few_passed : l.cut.passed ≤ l.start;
  few_lines : l.cut.lines ≤ l.start;
  few : l.paragraphs ≤ l.start;
  inside : l.start ≤ length l.text;
  resolver : l.resolver ≡ l.initial.resolver;
  first : IsFirstOf l.next (drop l.start l.text);
  some : l.start < length l.text → 0 < l.next.length;
  short : l.next.length ≤ length l.text - l.start;
  at_least : l.initial.steps + 2 * l.start + l.paragraphs + l.cut.lines + l.next.length ≤ l.steps + l.fn.first.length;
  at_most : l.steps + l.fn.first.length ≤ l.initial.steps + text_steps * l.start + l.next.length;
  if_uniform : l.uniform ≡ true →
      l.steps + l.fn.first.length ≤ l.initial.steps + uniform_text_steps * l.start + l.next.length;
}

abbrev pub decreases-loop-start : goal.decreases-loop-start
decreases-loop-start g l = length l.text - l.start
