use Rattle.std.specs.Iterator.Adapters.{enumerate_count, enumerate_source}
use Rattle.units.specs.Paragraphs.{paragraphs_of}
use Rattle.explain.specs.Explained.{explained_paragraph}
use Rattle.explain.proofs.Explaining.{HasExplained}
use Rattle.explain.proofs.print.print_units.Given as goal

abbrev pub invariant-loop-number : goal.invariant-loop-number
invariant-loop-number g l =
    HasExplained (g.W.Write.contents l.initial.w) (g.W.Write.contents l.w)
    (explained_paragraph l.chars l.direction (paragraphs_of l.text)) l.text
    (enumerate_source l.number-iterator) (enumerate_count l.number-iterator) l.start
