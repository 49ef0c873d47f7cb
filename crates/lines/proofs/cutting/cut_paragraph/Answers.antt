use Rattle.std.proofs.Common.{◌≡◌, ◌<◌, ◌≤◌, ◌+◌, ℕ, cond, arith, refl, sym, ap, ◌∙◌, subst}
use Rattle.std.specs.Prelude.{◌==◌}
use Rattle.lines.specs.LineBreaks.{AreBreaks}
use Rattle.lines.proofs.BoolBytes.{bool_byte-is}
use Rattle.lines.proofs.LineEnds.{ends_more}
use Rattle.lines.proofs.NextLine.{IsLimit, ends_line, limit_above, passed_on}
use Rattle.explicit.proofs.Matched.AtMostOne.{at_most_one}
use Rattle.lines.proofs.cutting.cut_paragraph.Goals as goal

pub loop-position-preserved : goal.loop-position-preserved
loop-position-preserved g c =
    let l = c.loop-position in
    let at = c.args.at.now in
    let len : ℕ = c.args.len in
    let limit : ℕ = c.next_break-limit.result in
    let end : ℕ = c.min-position.result in
    let breaks = c.requires.breaks in
    let is_limit : IsLimit at l.passed len limit = record {
      coming = c.next_break-limit.ensures.coming;
      last =
          c.next_break-limit.ensures.last;
    } in
    let ahead : l.position < limit =
    limit_above at l.passed len l.position limit l.invariant.passed (omega arith) is_limit in
    let above : l.position < end = omega arith in
    let within : end ≤ limit = omega arith in
    let inside : end ≤ c.args.paragraph.end = omega arith in
    let step : l.passed + c.from-passed.result ≡ l.passed + cond (end == limit) 1 0 =
    ap (λ n. l.passed + n) (c.from-passed.ensures ∙ bool_byte-is (end == limit)) in
    record {
      from = omega arith;
      within = inside;
      passed = passed_on at len l.passed (l.passed + c.from-passed.result) l.position limit end breaks
          l.invariant.passed is_limit above within step;
      few_passed = omega (arith, at_most_one (end == limit));
      few_lines = omega arith;
      more_lines = λ _. omega arith;
      no_fewer_lines = omega arith;
      ends = λ own same paragraph before.
          ends_more own at l.lines l.position end l.bounds _ (l.invariant.ends own same paragraph before) (omega (
            arith,
            l.auto.bounds,
          ))
          (ends_line own at l.passed c.args.paragraph.start l.position limit c.args.paragraph.end end
          (subst (AreBreaks at) (sym same) breaks) l.invariant.passed
          (subst (λ n. IsLimit at l.passed n limit) (sym same) is_limit) paragraph l.invariant.from above within
          inside (λ short. omega arith))
          refl;
      steps = omega arith;
    }
