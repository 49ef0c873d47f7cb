use Rattle.std.proofs.Common.{arith, subst}
use Rattle.lines.specs.LineBreaks.{AreBreaks}
use Rattle.lines.proofs.ResetSteps.{counted_back, last_before, paragraph_here, passed_to, resets_one, pass_end, pass_start}
use Rattle.lines.proofs.resets.reset_text.Goals as goal

pub loop-position-init : goal.loop-position-init
loop-position-init g c = record {
  within = omega arith;
  text = pass_start c.args.own.now c.args.paras.now c.count_separators-paragraph.result c.requires.levels
      (subst (AreBreaks c.positions-at.result.now) c.requires.len c.positions-at.ensures.breaks)
      c.count_separators-paragraph.ensures;
  steps = omega arith;
}

pub overflow_sub-paragraph : goal.overflow_sub-paragraph
overflow_sub-paragraph g c =
    let l = c.loop-position in
    let n = counted_back c.args.own.now c.args.paras.now l.invariant.text (omega arith) (omega (
      arith,
      l.invariant.within,
    )) _ _ _ c.is_separator-ends.ensures c.from-paragraph.ensures in
    omega arith

pub bounds-paras-paragraph : goal.bounds-paras-paragraph
bounds-paras-paragraph g c =
    let l = c.loop-position in
    omega (
      arith,
      paragraph_here c.args.own.now c.args.paras.now l.invariant.text (omega arith) (omega (
        arith,
        l.invariant.within,
      )) c.requires.paras _ _ _ c.is_separator-ends.ensures c.from-paragraph.ensures,
    )

pub loop-position-preserved-then-resets-broken : goal.loop-position-preserved-then-resets-broken
loop-position-preserved-then-resets-broken g c =
    let l = c.loop-position in
    let broken = c.comes_last-broken.ensures in
    record {
      within = omega arith;
      text =
          resets_one c.args.own.now c.args.paras.now l.invariant.text (omega arith) (omega (
            arith,
            l.invariant.within,
          )) c.requires.paras _ _ _ _ _ _ _ _ _
          (subst (AreBreaks c.positions-at.result.now) c.requires.len c.positions-at.ensures.breaks)
          c.is_separator-ends.ensures broken.0 broken.1
          c.resets_spaces_before-resets.ensures c.may_be_reset.ensures c.index-levels-position.is c.reset_level.ensures
          c.from-paragraph.ensures c.from-ahead.ensures;
      steps = omega (arith, c.tick.ensures, l.invariant.steps);
    }

pub after_separator-position-requires-clause-order : goal.after_separator-position-requires-clause-order
after_separator-position-requires-clause-order g c =
    let l = c.loop-position in
    last_before c.args.own.now c.args.paras.now l.invariant.text (omega arith) (omega (
      arith,
      l.invariant.within,
    )) _ _ _ c.if-resets-broken.false c.is_line_separator.ensures c.comes_last-broken.ensures.1
    c.last_coming.result c.last_coming.ensures.some c.last_coming.ensures.none

pub loop-position-preserved : goal.loop-position-preserved
loop-position-preserved g c =
    let l = c.loop-position in
    let passed = c.after_separator-position.ensures in
    record {
      within = omega (arith, passed.back.to_end, l.invariant.within);
      text =
          passed_to c.args.own.now c.args.paras.now l.invariant.text (omega arith) (omega (
            arith,
            l.invariant.within,
          )) _ _ _ c.if-resets-broken.false c.is_line_separator.ensures
          c.comes_last-broken.ensures.1
          (subst (AreBreaks c.positions-at.result.now) c.requires.len c.positions-at.ensures.breaks)
          c.after_separator-position.result c.last_coming.result c.last_coming.ensures.some passed.back.from_start
          passed.back.to_end passed.back.passed;
      steps = omega (arith, c.tick.ensures, passed.steps, l.invariant.steps);
    }

pub returns-clause-levels : goal.returns-clause-levels
returns-clause-levels g c =
    pass_end c.args.own.now c.args.paras.now c.loop-position.invariant.text c.args.breaks.now.positions
    (omega arith) c.positions-at.ensures.positions
