use Rattle.std.proofs.Common.{◌≡◌, ◌<◌, ◌+◌, ◌-◌, ◌++◌, [], ◌∷◌, cond, length, arith, sym, ap, ◌∙◌}
use Rattle.std.proofs.lemmas.List.{get_or_read}
use Rattle.std.specs.Prelude.{None, reverse, slice_index_or}
use Rattle.std.specs.Option.{is_some}
use mir.Val.{bool_byte}
use Rattle.lines.specs.LinePositions.{is_remaining, remaining}
use Rattle.lines.proofs.BoolBytes.{bool_byte-at_most_one}
use Rattle.lines.proofs.Remaining.{unchanged, remaining-before, remaining-none}
use Rattle.lines.proofs.writing.write_each_falling.Goals as goal

pub loop-position-init : goal.loop-position-init
loop-position-init g c =
    record {
      within = c.args.span.forward;
      order = ap reverse (sym (remaining-none c.args.span.levels.now c.args.span.end));
      count = omega arith;
      steps = omega arith;
    }

pub loop-position-preserved : goal.loop-position-preserved
loop-position-preserved g c =
    let l = c.loop-position in
    let levels = c.args.span.levels.now in
    let p = l.position - 1 in
    let there : p + 1 ≡ l.position = omega arith in
    let within : p < length levels = omega arith in
    let level : c.index-levels-position.result ≡ slice_index_or levels p None =
    get_or_read levels p c.index-levels-position.result within c.index-levels-position.is None in
    let test : c.is_some.result ≡ is_remaining levels p = c.is_some.ensures ∙ ap is_some level in
    let one = bool_byte-at_most_one c.is_some.result in
    let step : l.count + c.from-count.result ≡ l.count + bool_byte c.is_some.result =
    ap (λ n. l.count + n) c.from-count.ensures in
    record {
      within = omega arith;
      order = unchanged l.order l.count (l.count + c.from-count.result) p c.is_some.result (omega (
        arith,
        l.auto.order,
        l.invariant.count,
      )) step
          ∙ ap (λ xs. xs ++ cond c.is_some.result (p ∷ []) []) (l.invariant.order ∙
          ap (λ n. reverse (remaining levels n c.args.span.end)) (sym there))
          ∙ ap (λ b. reverse (remaining levels (p + 1) c.args.span.end) ++ cond b (p ∷ []) []) test
          ∙ sym (remaining-before levels p c.args.span.end (omega arith));
      count = omega (arith, l.invariant.count);
      steps = omega arith;
    }

pub returns-clause-order : goal.returns-clause-order
returns-clause-order g c =
    let l = c.loop-position in
    let there : l.position ≡ c.args.span.start = omega (arith, l.invariant.within) in
    l.invariant.order ∙ ap (λ n. reverse (remaining c.args.span.levels.now n c.args.span.end)) there
