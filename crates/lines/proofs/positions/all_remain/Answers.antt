use Rattle.std.proofs.Common.{◌≡◌, Bool, None, true, false, take, refl, sym, ap, ◌∙◌}
use Rattle.std.specs.Prelude.{◌&&◌, ◌||◌, not, slice_index_or}
use Rattle.std.specs.List.{list_all}
use Rattle.std.specs.Option.{is_some}
use Rattle.std.proofs.lemmas.List.{get_or_read}
use Rattle.std.proofs.lemmas.List.Folds.{list_all_more}
use Rattle.lines.proofs.positions.all_remain.Goals as goal

one_more : (all here removed : Bool) → here ≡ not removed → (not all || removed) ≡ not (all && here)
one_more true here true h = sym (ap not h)
one_more true here false h = sym (ap not h)
one_more false here removed h = refl

pub loop-level-preserved : goal.loop-level-preserved
loop-level-preserved g c =
    let l = c.loop-level in
    let levels = c.args.levels.now in
    let before : Bool = list_all is_some (take l.level-index levels) in
    let removed : Bool = c.is_none-removed.result in
    let read : c.level-item.result ≡ slice_index_or levels l.level-index None =
    get_or_read levels l.level-index c.level-item.result c.loop-level-test.true c.level-item.is None in
    ap (λ b. b || removed) l.invariant
    ∙ one_more before (is_some c.level-item.result) removed c.is_none-removed.ensures
    ∙ ap (λ x. not (before && is_some x)) read
    ∙ ap not (sym (list_all_more is_some levels l.level-index None c.loop-level-test.true))
