use Rattle.std.proofs.Common.{arith, ap, refl, suc, sym, subst, ◌≡◌, ◌+◌}
use Rattle.std.specs.Prelude.{slice_index}
use Rattle.std.proofs.lemmas.List.{length-map}
use Rattle.units.specs.Classes.{classes_of}
use Rattle.lines.specs.LineBreaks.{AreBreaks}
use Rattle.lines.specs.LineEnds.{AreLineEnds, BreaksArePassed, IsParagraphAt, paragraph_start}
use Rattle.lines.proofs.LineEnds.{ends_none}
use Rattle.lines.proofs.NextLine.{passed_none}
use Rattle.lines.proofs.recutting.cut_text.Goals as goal

pub loop-paragraph-init : goal.loop-paragraph-init
loop-paragraph-init g c = record {
  passed = subst (λ n. BreaksArePassed c.positions-at.result.now n 0) (sym c.start_cut-cut.ensures.passed)
      (passed_none c.positions-at.result.now c.args.breaks.now.len c.positions-at.ensures.breaks);
  ends =
      subst (λ n. AreLineEnds (classes_of c.args.text.now) c.positions-at.result.now n 0 c.start_cut-cut.new.bounds)
      (sym c.start_cut-cut.ensures.lines)
      (ends_none (classes_of c.args.text.now) c.positions-at.result.now c.start_cut-cut.new.bounds
      c.start_cut-cut.ensures.first);
  few_passed = omega (arith, c.start_cut-cut.ensures.passed);
  few_lines = omega (arith, c.start_cut-cut.ensures.lines);
  begins = refl;
  few = omega arith;
  inside = omega arith;
  steps = omega (arith, c.start_cut-cut.ensures.lines);
}

pub cut_paragraph-cut-requires-clause-breaks : goal.cut_paragraph-cut-requires-clause-breaks
cut_paragraph-cut-requires-clause-breaks g c =
    subst (AreBreaks c.positions-at.result.now) c.requires.len c.positions-at.ensures.breaks

pub loop-paragraph-preserved : goal.loop-paragraph-preserved
loop-paragraph-preserved g c =
    let l = c.loop-paragraph in
    let text = c.args.text.now in
    let cut = c.cut_paragraph-cut in
    let end = slice_index c.args.para_ends.now l.paragraph in
    let here : IsParagraphAt (classes_of text) l.start end =
    rw l.invariant.begins (c.requires.para_ends.each l.paragraph (omega arith)) in
    let next : l.paragraph + 1 ≡ suc l.paragraph = omega arith in
    record {
      begins = sym (ap (paragraph_start c.args.para_ends.now) next);
      passed = cut.ensures.passed;
      ends = cut.ensures.ends (classes_of text) (length-map text (λ u. u.class)) here l.invariant.ends;
      few_passed = cut.ensures.few_passed;
      few_lines = omega (arith, here.above, cut.ensures.few_lines, l.invariant.few_lines);
      few = omega (arith, here.above, l.invariant.few);
      inside = omega (arith, here.within, length-map text (λ u. u.class));
      steps = omega (arith, cut.ensures.steps, cut.ensures.more_lines, l.invariant.steps, c.tick.ensures);
    }
