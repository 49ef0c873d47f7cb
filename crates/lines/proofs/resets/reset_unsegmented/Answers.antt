use Rattle.std.proofs.Common.{◌<◌, ◌≤◌, ◌-◌, length, arith, ap, subst}
use Rattle.units.specs.Classes.{classes_of}
use Rattle.lines.specs.LineBreaks.{AreBreaks}
use Rattle.lines.specs.LineEnds.{paragraph_start}
use Rattle.lines.proofs.Begun.{begun, begun_all, begun_none, begun_over, begun_step}
use Rattle.lines.proofs.ResetSteps.{counted_back, counted_here, last_before, paragraph_here, passed_one, passed_to, resets_one, pass_end, pass_start}
use Rattle.lines.proofs.Unsegmented.{counted_within, free_before}
use Rattle.lines.proofs.resets.reset_unsegmented.Goals as goal

pub loop-position-init : goal.loop-position-init
loop-position-init g c = record {
  within = omega arith;
  text = pass_start c.args.own.now c.args.paras.now c.count_separators-paragraph.result c.requires.levels
      (subst (AreBreaks c.positions-at.result.now) c.requires.len c.positions-at.ensures.breaks)
      c.count_separators-paragraph.ensures;
  at_least = omega (
    arith,
    begun_all c.args.own.now c.args.para_ends.now c.requires.ends,
    ap (begun (classes_of c.args.own.now)) c.requires.levels,
  );
  at_most = omega arith;
}

pub overflow_sub-paragraph : goal.overflow_sub-paragraph
overflow_sub-paragraph g c =
    let l = c.loop-position in
    let n = counted_back c.args.own.now c.args.paras.now l.invariant.text (omega arith) (omega (
      arith,
      l.invariant.within,
    )) _ _ _ c.is_separator-ends.ensures c.from-paragraph.ensures in
    omega arith

pub bounds-paras-paragraph : goal.bounds-paras-paragraph
bounds-paras-paragraph g c =
    let l = c.loop-position in
    omega (
      arith,
      paragraph_here c.args.own.now c.args.paras.now l.invariant.text (omega arith) (omega (
        arith,
        l.invariant.within,
      )) c.requires.paras _ _ _ c.is_separator-ends.ensures c.from-paragraph.ensures,
    )

pub loop-position-preserved-then-resets-broken : goal.loop-position-preserved-then-resets-broken
loop-position-preserved-then-resets-broken g c =
    let l = c.loop-position in
    let broken = c.comes_last-broken.ensures in
    record {
      within = omega arith;
      text =
          resets_one c.args.own.now c.args.paras.now l.invariant.text (omega arith) (omega (
            arith,
            l.invariant.within,
          )) c.requires.paras _ _ _ _ _ _ _ _ _
          (subst (AreBreaks c.positions-at.result.now) c.requires.len c.positions-at.ensures.breaks)
          c.is_separator-ends.ensures broken.0 broken.1
          c.resets_spaces_before-resets.ensures c.may_be_reset.ensures c.index-levels-position.is c.reset_level.ensures
          c.from-paragraph.ensures c.from-ahead.ensures;
      at_least = omega (
        arith,
        c.tick.ensures,
        l.invariant.at_least,
        begun_step (classes_of c.args.own.now) l.position (omega arith) (omega (
          arith,
          l.invariant.within,
          l.invariant.text.all,
        )),
      );
      at_most = omega (arith, c.tick.ensures, l.invariant.at_most);
    }

pub start_of_paragraph-start-requires : goal.start_of_paragraph-start-requires
start_of_paragraph-start-requires g c =
    let l = c.loop-position in
    omega (
      arith,
      c.requires.each,
      l.invariant.text.counted,
      counted_within c.args.own.now (length c.args.paras.now) l.position c.requires.paras (omega (
        arith,
        l.invariant.within,
      )),
    )

pub loop-position-smaller : goal.loop-position-smaller
loop-position-smaller g c =
    let l = c.loop-position in
    let us = c.args.own.now in
    let some : 0 < l.position = omega arith in
    let within : l.position ≤ length us = omega (arith, l.invariant.within) in
    let breaks : AreBreaks c.positions-at.result.now (length us) =
    subst (AreBreaks c.positions-at.result.now) c.requires.len c.positions-at.ensures.breaks in
    let on = passed_one us c.args.paras.now l.invariant.text some within _ _ _ c.if-resets-broken.false
    c.is_line_separator.ensures c.comes_last-broken.ensures.1 breaks in
    let last = last_before us c.args.paras.now l.invariant.text some within _ _ _ c.if-resets-broken.false
    c.is_line_separator.ensures c.comes_last-broken.ensures.1 c.last_coming.result c.last_coming.ensures.some
    c.last_coming.ensures.none in
    let inside : l.paragraph < length c.args.para_ends.now =
    omega (
      arith,
      on.counted,
      c.requires.each,
      counted_here us c.args.paras.now l.invariant.text some within c.requires.paras,
    ) in
    let free = free_before us c.args.para_ends.now (l.position - 1) l.paragraph c.requires.ends c.requires.none inside
    (omega arith) on.counted in
    omega (arith, c.max-position.ensures, c.start_of_paragraph-start.ensures, free.start, last)

pub loop-position-preserved : goal.loop-position-preserved
loop-position-preserved g c =
    let l = c.loop-position in
    let us = c.args.own.now in
    let p = l.position - 1 in
    let q = c.max-position.result in
    let some : 0 < l.position = omega arith in
    let within : l.position ≤ length us = omega (arith, l.invariant.within) in
    let breaks : AreBreaks c.positions-at.result.now (length us) =
    subst (AreBreaks c.positions-at.result.now) c.requires.len c.positions-at.ensures.breaks in
    let on = passed_one us c.args.paras.now l.invariant.text some within _ _ _ c.if-resets-broken.false
    c.is_line_separator.ensures c.comes_last-broken.ensures.1 breaks in
    let last = last_before us c.args.paras.now l.invariant.text some within _ _ _ c.if-resets-broken.false
    c.is_line_separator.ensures c.comes_last-broken.ensures.1 c.last_coming.result c.last_coming.ensures.some
    c.last_coming.ensures.none in
    let inside : l.paragraph < length c.args.para_ends.now =
    omega (
      arith,
      on.counted,
      c.requires.each,
      counted_here us c.args.paras.now l.invariant.text some within c.requires.paras,
    ) in
    let free = free_before us c.args.para_ends.now p l.paragraph c.requires.ends c.requires.none inside
    (omega arith) on.counted in
    let start = c.start_of_paragraph-start.ensures in
    let from : paragraph_start c.args.para_ends.now l.paragraph ≤ q = omega (arith, c.max-position.ensures, start) in
    let low : q ≤ p = omega (arith, c.max-position.ensures, start, free.start, last) in
    record {
      within = omega (arith, low, l.invariant.within);
      text =
          passed_to us c.args.paras.now l.invariant.text some within _ _ _ c.if-resets-broken.false
          c.is_line_separator.ensures c.comes_last-broken.ensures.1 breaks
          q c.last_coming.result c.last_coming.ensures.some (omega (arith, c.max-position.ensures)) low record {
            none =
                λ r ge lt. free.none r (omega (arith, from)) lt;
          };
      at_least = omega (
        arith,
        c.tick.ensures,
        l.invariant.at_least,
        begun_over us c.args.para_ends.now l.position l.paragraph q c.requires.ends inside some (omega (
          arith,
          low,
          within,
        )) on.counted from,
      );
      at_most = omega (arith, c.tick.ensures, low, l.invariant.at_most);
    }

pub returns-clause-levels : goal.returns-clause-levels
returns-clause-levels g c =
    pass_end c.args.own.now c.args.paras.now c.loop-position.invariant.text c.args.breaks.now.positions
    (omega arith) c.positions-at.ensures.positions

pub returns-clause-at_least : goal.returns-clause-at_least
returns-clause-at_least g c =
    let l = c.loop-position in
    omega (arith, l.invariant.at_least, begun_none (classes_of c.args.own.now) l.position (omega arith))
