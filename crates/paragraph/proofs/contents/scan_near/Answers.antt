use Rattle.std.proofs.Common.{arith, ap, refl, sym, ◌+◌, ◌∙◌, ℕ}
use Rattle.units.specs.Layout.{no_unit}
use Rattle.paragraph.specs.FirstSides.{side_by}
use Rattle.paragraph.proofs.Scan.{ends_here, front_more, set_more, first_strong_stays}
use Rattle.paragraph.proofs.contents.scan_near.Goals as goal

pub loop-position-preserved : goal.loop-position-preserved
loop-position-preserved g c =
    record {
      later = omega (arith, c.loop-position.invariant.later);
      front = front_more c.loop-position.invariant.front c.loop-position-test.true (sym c.is_separator.ensures ∙
          c.if-is_separator.false) (c.with-classes.ensures _ c.loop-position.invariant.front.set);
      strong = first_strong_stays c.args.text.now c.loop-position.position no_unit c.loop-position-test.true
          c.args.strong c.loop-position.invariant.strong;
      steps = omega arith;
    }

pub returns-then-is_separator-clause-first : goal.returns-then-is_separator-clause-first
returns-then-is_separator-clause-first g c =
    let p : ℕ = c.loop-position.position in
    record {
      length = ends_here c.args.text.now p no_unit c.loop-position-test.true (sym c.is_separator.ensures ∙
          c.if-is_separator.true) c.loop-position.invariant.front.goes_on;
      contents = record {
        classes = set_more c.with-classes.result c.args.text.now p (p + 1) refl c.loop-position-test.true
            (c.with-classes.ensures _ c.loop-position.invariant.front.set);
        side = c.noting-side.ensures ∙
            sym (ap side_by (first_strong_stays c.args.text.now p no_unit c.loop-position-test.true c.args.strong
            c.loop-position.invariant.strong));
      };
    }

pub scan_far-requires-clause-front : goal.scan_far-requires-clause-front
scan_far-requires-clause-front g c =
    front_more c.loop-position.invariant.front c.loop-position-test.true (sym c.is_separator.ensures ∙
    c.if-is_separator.false) (c.with-classes.ensures _ c.loop-position.invariant.front.set)

pub scan_far-requires-clause-strong : goal.scan_far-requires-clause-strong
scan_far-requires-clause-strong g c =
    first_strong_stays c.args.text.now c.loop-position.position no_unit c.loop-position-test.true c.args.strong
    c.loop-position.invariant.strong
