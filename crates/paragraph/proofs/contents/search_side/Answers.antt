use Rattle.std.proofs.Common.{arith, ap, sym, ◌∙◌}
use Rattle.units.specs.Layout.{no_unit}
use Rattle.paragraph.specs.FirstSides.{side_by}
use Rattle.paragraph.proofs.Scan.{no_strong_yet, text_strong}
use Rattle.paragraph.proofs.contents.search_side.Goals as goal

pub loop-k-preserved : goal.loop-k-preserved
loop-k-preserved g c =
    record {
      strong = no_strong_yet c.args.text.now c.loop-k.k no_unit c.loop-k-test.true (sym c.is_strong.ensures ∙
          c.if-is_strong.false) c.loop-k.invariant.strong;
      steps = omega arith;
    }

pub returns-then-is_strong-clause-side : goal.returns-then-is_strong-clause-side
returns-then-is_strong-clause-side g c =
    c.noting.ensures ∙
    sym (ap side_by (text_strong c.args.text.now c.loop-k.k no_unit c.loop-k-test.true (sym c.is_strong.ensures ∙
    c.if-is_strong.true) c.loop-k.invariant.strong))
