-- Flat paragraphs: what the scan of their classes proves.
use Rattle.std.specs.Prelude.{Option, None, Some, ℕ, Bool, true, false, ◌<◌, ◌≤◌, ◌≡◌, not, List, [], ◌∷◌, length, map, slice_index, refl}
use Rattle.std.specs.List.{flat_map, list_all}
use Rattle.std.specs.Option.{is_some}
use Rattle.std.proofs.Common.{arith, ap, sym, ◌∙◌, cond, get_or, inl, inr}
use Rattle.std.proofs.lemmas.Bool.{and_parts, cases_lt, not-true}
use Rattle.std.proofs.lemmas.Option.{none-some, same_Some}
use Rattle.std.proofs.lemmas.List.{length-map, get_or-map, get_or_past, ext_get_or}
use Rattle.std.proofs.lemmas.List.Sums.{AllPass-from_list_all, count_by-le-length, length-filter}
use Rattle.units.specs.Classes.{classes_of, is_removed}
use Rattle.units.specs.Layout.{no_unit, value_beside, levels_in, resolved_levels}
use Rattle.units.specs.Limits.{LimitsOf}
use Rattle.units.specs.Positions.{positions_of}
use Rattle.units.specs.Runs.{SequenceView, leveled_of, sequences_of}
use Rattle.units.specs.declared.bracket.Unit.{Unit as BidiUnit}
use Rattle.units.specs.declared.class.Class.{Class}
use Rattle.units.specs.declared.class.Class.TheVariants.{L}
use Rattle.explicit.specs.ExplicitLevels.{HoldsLevels}
use Rattle.explicit.specs.Flat.{is_flat, IsFlat, remaining_of, flat_sequences}
use Rattle.explicit.specs.IdleRules.{HasNone}
use Rattle.explicit.specs.Uniform.{level_unless_removed_at}
use Rattle.units.proofs.Positions.{length-positions_from, get_or-positions_from}
use Rattle.explicit.proofs.OneSequence.{sequences_of-flat}
use Rattle.explicit.proofs.Staying.{resolved_levels-uniform}
use Rattle.explicit.proofs.WholeLevels.{resolved_levels-flat}
use Rattle.resolve.specs.Wanted.{AreOwn}
use Rattle.paragraph.proofs.AllSequences.{computed_own, computed_levels}
use Rattle.paragraph.specs.Contents.{has_none, keeps_level}
use Rattle.paragraph.specs.Covering.{HasLevelsBy, classes_before}
use Rattle.paragraph.specs.Resolvers.{StaysAt}

pub flat_from : (cs : List Class) → list_all is_flat cs ≡ true → IsFlat cs
flat_from cs h = AllPass-from_list_all is_flat cs h

pub none_from : (test : Class → Bool) (cs : List Class) → has_none test cs ≡ true → HasNone test cs
none_from test cs h = λ k d lt. not-true (test (get_or cs k d)) (AllPass-from_list_all (λ c. not (test c)) cs h k d lt)

-- if the classes keep the paragraph's level, the resolved levels are this level at each position that remains
pub levels_are_unchanged : (limits : LimitsOf) (us : List BidiUnit) (para : ℕ) →
    keeps_level para (classes_of us) ≡ true → map (λ (u : BidiUnit). level_unless_removed_at para u.class) us ≡
    resolved_levels limits us para
levels_are_unchanged limits us para keeps = grind (arith, and_parts, resolved_levels-uniform, flat_from, none_from)

-- the levels that the sequences of a flat paragraph give, from its own classes, are its resolved levels
pub flat_levels : (limits : LimitsOf) (us : List BidiUnit) (para : ℕ) (all : List SequenceView)
    (levels : List (Option ℕ)) → IsFlat (classes_of us) →
    all ≡ sequences_of (leveled_of limits.depth (classes_of us) para) →
    length levels ≡ length us → HasLevelsBy limits.brackets us (classes_of us) all levels →
    levels ≡ resolved_levels limits us para
flat_levels limits us para all levels flat are n has =
    let cs : List Class = classes_of us in
    let found : ℕ → Option ℕ = value_beside (flat_map (levels_in limits.brackets us cs) (flat_sequences para cs)) in
    let m : length (positions_of us) ≡ length us = length-positions_from 0 (length us) in
    let k : length (map found (positions_of us)) ≡ length (positions_of us) = length-map (positions_of us) found in
    let one : all ≡ flat_sequences para cs = are ∙ sequences_of-flat limits.depth cs para flat in
    ext_get_or None levels (map found (positions_of us)) (omega arith)
    (λ i h.
    let at : slice_index (positions_of us) i ≡ i = get_or-positions_from 0 (length us) i 0 (omega arith) ∙
    omega arith in
    has i (omega arith)
    ∙ ap (λ (ss : List SequenceView). value_beside (flat_map (levels_in limits.brackets us cs) ss) i) one
    ∙ ap found (sym at)
    ∙ sym (get_or-map found (positions_of us) i 0 None (omega arith)))
    ∙ sym (resolved_levels-flat limits us para flat)

-- the levels that the sequences give from the classes before W1, in a flat paragraph and in any other
pub own_before : (limits : LimitsOf) (us : List BidiUnit) (para : ℕ) (explicit : List (Option (ℕ × Class)))
    (flat : Bool) → (flat ≡ false → HoldsLevels explicit limits.depth (classes_of us) para) →
    (ps : List ℕ) → AreOwn ps us (classes_before flat us explicit)
own_before limits us para explicit true holds ps = λ p represents free. refl
own_before limits us para explicit false holds ps = computed_own limits us para explicit (holds refl) ps

pub levels_before : (limits : LimitsOf) (us : List BidiUnit) (para : ℕ) (explicit : List (Option (ℕ × Class)))
    (flat : Bool) → (flat ≡ true → IsFlat (classes_of us)) →
    (flat ≡ false → HoldsLevels explicit limits.depth (classes_of us) para) →
    (all : List SequenceView) (levels : List (Option ℕ)) →
    all ≡ sequences_of (leveled_of limits.depth (classes_of us) para) →
    length levels ≡ length us → HasLevelsBy limits.brackets us (classes_before flat us explicit) all levels →
    levels ≡ resolved_levels limits us para
levels_before limits us para explicit true is holds all levels are n has =
    flat_levels limits us para all levels (is refl) are n has
levels_before limits us para explicit false is holds all levels are n has =
    computed_levels limits us para explicit (holds refl) all levels are n has

-- if no class of a paragraph is removed, the class of a position isn't
pub unit_remains : (us : List BidiUnit) (p : ℕ) → p < length us → HasNone is_removed (classes_of us) →
    is_removed (get_or us p no_unit).class ≡ false
unit_remains us p lt none =
    let e : get_or (classes_of us) p L ≡ (get_or us p no_unit).class =
    get_or-map (λ (u : BidiUnit). u.class) us p no_unit L lt in
    ap is_removed (sym e) ∙ none p L (omega (arith, length-map us (λ (u : BidiUnit). u.class)))

-- no more positions remain than there are
pub remaining_few : (us : List BidiUnit) → length (remaining_of (classes_of us)) ≤ length us
remaining_few us = grind (arith, length-map, length-positions_from, length-filter, count_by-le-length)

-- if the classes keep the level, each position that has a level has this one
pub unchanged_stays : (us : List BidiUnit) (level : ℕ) (levels : List (Option ℕ)) →
    levels ≡ map (λ (u : BidiUnit). level_unless_removed_at level u.class) us → StaysAt level levels
unchanged_stays us level levels e p v found =
    let keep : BidiUnit → Option ℕ = λ u. level_unless_removed_at level u.class in
    let here : get_or (map keep us) p None ≡ Some v = ap (λ (xs : List (Option ℕ)). get_or xs p None) (sym e) ∙ found in
    elim (cases_lt p (length us)) [
      | inl inside ↦
          let unchanged : keep (get_or us p no_unit) ≡ Some v = sym (get_or-map keep us p no_unit None inside) ∙ here in
          one_level (is_removed (get_or us p no_unit).class) unchanged
      | inr past ↦ absurd (none-some v (sym (get_or_past (map keep us) p None (omega (arith, length-map us keep))) ∙
          here))
    ]
  where
    one_level : (removed : Bool) → cond removed None (Some level) ≡ Some v → v ≡ level
    one_level true h = absurd (none-some v h)
    one_level false h = sym (same_Some level v h)

-- if no class is removed, each position has the level
pub all_have_level : (us : List BidiUnit) (level : ℕ) → has_none is_removed (classes_of us) ≡ true →
    list_all is_some (map (λ (u : BidiUnit). level_unless_removed_at level u.class) us) ≡ true
all_have_level [] level none = refl
all_have_level (u ∷ us) level none = grind (arith, and_parts, not-true, all_have_level us level)
