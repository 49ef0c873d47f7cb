use Rattle.std.proofs.Common.{◌≡◌, ◌+◌, ◌++◌, [], ◌∷◌, cond, take, sym, ap, ◌∙◌}
use Rattle.std.proofs.lemmas.List.{get_or_read}
use Rattle.std.specs.Prelude.{None, slice_index_or}
use Rattle.std.specs.Option.{is_some}
use mir.Val.{bool_byte}
use Rattle.lines.specs.LinePositions.{is_remaining}
use Rattle.lines.proofs.EightWritten.{remaining_at}
use Rattle.lines.proofs.Remaining.{unchanged}
use Rattle.lines.proofs.writing.append_one.Goals as goal

pub returns-clause-order : goal.returns-clause-order
returns-clause-order c =
    let levels = c.args.levels.now in
    let p = c.args.position in
    let order = c.args.order.now in
    let count = c.args.count in
    let level : c.index-levels-position.result ≡ slice_index_or levels p None =
    get_or_read levels p c.index-levels-position.result c.requires.within c.index-levels-position.is None in
    let test : c.is_some.result ≡ is_remaining levels p = c.is_some.ensures ∙ ap is_some level in
    let step : count + c.from.result ≡ count + bool_byte c.is_some.result = ap (λ n. count + n) c.from.ensures in
    unchanged order count (count + c.from.result) p c.is_some.result c.requires.room step
    ∙ ap (λ b. take count order ++ cond b (p ∷ []) []) test
    ∙ ap (λ xs. take count order ++ xs) (sym (remaining_at levels p))
