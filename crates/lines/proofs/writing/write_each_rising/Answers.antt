use Rattle.std.proofs.Common.{◌≡◌, ◌<◌, ◌+◌, ◌++◌, [], ◌∷◌, cond, length, arith, sym, ap, ◌∙◌}
use Rattle.std.proofs.lemmas.List.{get_or_read}
use Rattle.std.specs.Prelude.{None, slice_index_or}
use Rattle.std.specs.Option.{is_some}
use mir.Val.{bool_byte}
use Rattle.lines.specs.LinePositions.{is_remaining, remaining}
use Rattle.lines.proofs.BoolBytes.{bool_byte-at_most_one}
use Rattle.lines.proofs.Remaining.{unchanged, remaining-next}
use Rattle.lines.proofs.writing.write_each_rising.Goals as goal

pub loop-position-preserved : goal.loop-position-preserved
loop-position-preserved g c =
    let l = c.loop-position in
    let levels = c.args.span.levels.now in
    let within : l.position < length levels = omega arith in
    let level : c.index-levels-position.result ≡ slice_index_or levels l.position None =
    get_or_read levels l.position c.index-levels-position.result within c.index-levels-position.is None in
    let test : c.is_some.result ≡ is_remaining levels l.position = c.is_some.ensures ∙ ap is_some level in
    let one = bool_byte-at_most_one c.is_some.result in
    let step : l.count + c.from-count.result ≡ l.count + bool_byte c.is_some.result =
    ap (λ n. l.count + n) c.from-count.ensures in
    record {
      order = unchanged l.order l.count (l.count + c.from-count.result) l.position c.is_some.result (omega (
        arith,
        l.auto.order,
        l.invariant.count,
      )) step
          ∙ ap (λ xs. xs ++ cond c.is_some.result (l.position ∷ []) []) l.invariant.order
          ∙ ap (λ b. remaining levels c.args.span.start l.position ++ cond b (l.position ∷ []) []) test
          ∙ sym (remaining-next levels c.args.span.start l.position (omega arith));
      count = omega (arith, l.invariant.count);
      steps = omega arith;
    }
