use Rattle.std.proofs.Common.{arith, ap, refl, sym, ◌+◌, ◌∙◌, ℕ}
use Rattle.units.specs.Layout.{no_unit}
use Rattle.paragraph.specs.FirstSides.{side_by}
use Rattle.paragraph.proofs.Scan.{ends_here, front_more, set_more, first_strong_stays, first_strong_stays_later}
use Rattle.paragraph.proofs.contents.scan_far.Goals as goal

pub loop-p-init : goal.loop-p-init
loop-p-init g c =
    let front = c.pass_eights-front.ensures in
    record {
      front = front.front;
      strong = first_strong_stays_later c.args.text.now c.args.start c.pass_eights-front.result.length front.later
          front.front.within c.args.strong c.requires.strong;
      steps = front.steps;
    }

pub loop-p-preserved : goal.loop-p-preserved
loop-p-preserved g c =
    record {
      front = front_more c.loop-p.invariant.front c.loop-p-test.true (sym c.is_separator.ensures ∙
          c.if-is_separator.false) (c.with-classes.ensures _ c.loop-p.invariant.front.set);
      strong = first_strong_stays c.args.text.now c.loop-p.p no_unit c.loop-p-test.true c.args.strong
          c.loop-p.invariant.strong;
      steps = omega arith;
    }

pub returns-then-is_separator-clause-first : goal.returns-then-is_separator-clause-first
returns-then-is_separator-clause-first g c =
    let p : ℕ = c.loop-p.p in
    record {
      length = ends_here c.args.text.now p no_unit c.loop-p-test.true (sym c.is_separator.ensures ∙
          c.if-is_separator.true) c.loop-p.invariant.front.goes_on;
      contents = record {
        classes = set_more c.with-classes.result c.args.text.now p (p + 1) refl c.loop-p-test.true
            (c.with-classes.ensures _ c.loop-p.invariant.front.set);
        side = c.noting-side.ensures ∙
            sym (ap side_by (first_strong_stays c.args.text.now p no_unit c.loop-p-test.true c.args.strong
            c.loop-p.invariant.strong));
      };
    }
