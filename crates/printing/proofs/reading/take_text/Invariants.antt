use Rattle.std.proofs.Common.{◌≡◌, ◌+◌, length}
use Rattle.printing.specs.UnderWay.{PrintsOn}
use Rattle.printing.specs.UnfinishedParagraphs.{chars_so_far}
use Rattle.printing.proofs.reading.take_text.Given as goal

abbrev pub invariant-loop-character : goal.invariant-loop-character
invariant-loop-character g l = record {
  passed_in : chars_so_far l.begun.paragraph ≡ chars_so_far l.initial.begun.paragraph + length l.yielded;
  printed : PrintsOn l.yielded (g.W.Write.contents l.initial.w) (g.W.Write.contents l.w) l.initial.begun l.begun;
}
