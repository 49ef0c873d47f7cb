use Rattle.std.proofs.Common.{◌≡◌, take}
use Rattle.printing.specs.UnderWay.{PrintsOn}
use Rattle.printing.specs.UnfinishedParagraphs.{chars_so_far}
use Rattle.printing.proofs.print.print_each.Given as goal

abbrev pub invariant-loop-k : goal.invariant-loop-k
invariant-loop-k g l = record {
  passed_in : chars_so_far l.begun.paragraph ≡ l.k;
  printed : PrintsOn (take l.k l.text) (g.W.Write.contents l.initial.w) (g.W.Write.contents l.w) l.initial.begun
      l.begun;
}
