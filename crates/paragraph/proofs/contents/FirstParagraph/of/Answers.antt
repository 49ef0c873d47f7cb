use Rattle.std.proofs.Common.{arith, ap, refl, sym, ◌+◌, ◌∙◌, ℕ}
use Rattle.units.specs.Layout.{no_unit}
use Rattle.paragraph.specs.FirstSides.{side_by}
use Rattle.paragraph.proofs.Scan.{ends_here, front_more, no_strong_yet, separator_is_weak, set_more, first_strong_here}
use Rattle.paragraph.proofs.contents.FirstParagraph.of.Goals as goal

pub loop-k-preserved : goal.loop-k-preserved
loop-k-preserved g c =
    record {
      front = front_more c.loop-k.invariant.front c.loop-k-test.true (sym c.is_separator.ensures ∙
          c.if-is_separator.false) (c.with-classes.ensures _ c.loop-k.invariant.front.set);
      strong = no_strong_yet c.args.text.now c.loop-k.k no_unit c.loop-k-test.true (sym c.is_strong.ensures ∙
          c.if-is_strong.false) c.loop-k.invariant.strong;
      steps = omega arith;
    }

pub returns-then-is_separator-clause-first : goal.returns-then-is_separator-clause-first
returns-then-is_separator-clause-first g c =
    let k : ℕ = c.loop-k.k in
    let separates = sym c.is_separator.ensures ∙ c.if-is_separator.true in
    record {
      length = ends_here c.args.text.now k no_unit c.loop-k-test.true separates c.loop-k.invariant.front.goes_on;
      contents = record {
        classes = set_more c.with-classes.result c.args.text.now k (k + 1) refl c.loop-k-test.true
            (c.with-classes.ensures _ c.loop-k.invariant.front.set);
        side = sym (ap side_by (no_strong_yet c.args.text.now k no_unit c.loop-k-test.true
            (separator_is_weak _ separates) c.loop-k.invariant.strong));
      };
    }

pub scan_near-requires-clause-front : goal.scan_near-requires-clause-front
scan_near-requires-clause-front g c =
    front_more c.loop-k.invariant.front c.loop-k-test.true (sym c.is_separator.ensures ∙
    c.if-is_separator.false) (c.with-classes.ensures _ c.loop-k.invariant.front.set)

pub scan_near-requires-clause-strong : goal.scan_near-requires-clause-strong
scan_near-requires-clause-strong g c =
    first_strong_here c.args.text.now c.loop-k.k no_unit c.loop-k-test.true (sym c.is_strong.ensures ∙
    c.if-is_strong.true) c.loop-k.invariant.strong
