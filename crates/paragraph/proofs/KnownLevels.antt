-- The levels of a paragraph that keeps its level, written from its start on.
use Rattle.std.proofs.Common.{◌≡◌, ℕ, ◌+◌, ◌<◌, Bool, false, Option, List, [], ◌∷◌, ◌++◌, length, get_or, map, take, ap, sym, ◌∙◌}
use Rattle.std.specs.List.{list_any}
use Rattle.std.specs.Prelude.{◌||◌, slice_index_or, slice_set}
use Rattle.std.proofs.lemmas.Bool.{or_parts}
use Rattle.std.proofs.lemmas.List.{map-append, take_more, take_more_set}
use Rattle.units.specs.Classes.{is_removed}
use Rattle.units.specs.Layout.{no_unit}
use Rattle.units.specs.declared.bracket.Unit.{Unit as BidiUnit}
use Rattle.explicit.specs.Uniform.{level_unless_removed_at}
use Rattle.paragraph.specs.KnownLevels.{HasLevelsBefore, classes_at_four}

-- with the level of one position more
pub level_more : (us : List BidiUnit) (p level : ℕ) (levels : List (Option ℕ)) (new : Option ℕ) → p < length us →
    p < length levels → new ≡ level_unless_removed_at level (slice_index_or us p no_unit).class →
    HasLevelsBefore p level us levels → HasLevelsBefore (p + 1) level us (slice_set levels p new)
level_more us p level levels new lt room is before =
    let keep : BidiUnit → Option ℕ = λ u. level_unless_removed_at level u.class in
    take_more_set levels p new room
    ∙ ap (λ xs. xs ++ new ∷ []) before
    ∙ ap (λ x. map keep (take p us) ++ x ∷ []) is
    ∙ sym (map-append keep (take p us) (get_or us p no_unit ∷ []))
    ∙ ap (map keep) (sym (take_more us p no_unit lt))

-- if none of four units is removed, the last isn't
pub last_remains : (us : List BidiUnit) (p : ℕ) → list_any is_removed (classes_at_four us p) ≡ false →
    is_removed (slice_index_or us (p + 3) no_unit).class ≡ false
last_remains us p none =
    let removed : ℕ → Bool = λ k. is_removed (slice_index_or us (p + k) no_unit).class in
    let later = or_parts (is_removed (slice_index_or us p no_unit).class) (removed 1 || (removed 2 || (removed 3 || false)))
    none in
    let third = or_parts (removed 1) (removed 2 || (removed 3 || false)) later.1 in
    let fourth = or_parts (removed 2) (removed 3 || false) third.1 in
    let end = or_parts (removed 3) false fourth.1 in
    end.0
