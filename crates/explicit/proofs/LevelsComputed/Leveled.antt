-- The levels and the partners of a paragraph, as the sequences see them.
use Rattle.std.proofs.Common.{◌≡◌, ℕ, ◌<◌, ◌≤◌, true, List, length, get_or, map, Option, Some, None, inl, inr, refl, sym, ap, subst, ◌∙◌, arith}
use Rattle.std.specs.Prelude.{IfSome}
use Rattle.std.specs.Option.{option_map}
use Rattle.std.proofs.lemmas.Bool.{cases_lt}
use Rattle.std.proofs.lemmas.List.{length-map, get_or-map, get_or_past}
use Rattle.units.specs.Positions.{positions_of}
use Rattle.units.specs.Classes.{class_at, is_isolate_initiator}
use Rattle.units.specs.Isolates.{matching_pdi, partner_of}
use Rattle.units.specs.Explicit.{explicit_at, explicit_of}
use Rattle.units.specs.Runs.{leveled_of, level_of, size_of, matched_pdi}
use Rattle.explicit.specs.Leveled.{IsLeveled}
use Rattle.units.specs.declared.class.Class.{Class}
use Rattle.units.proofs.Positions.{length-positions_from, get_or-positions_from}
use Rattle.explicit.proofs.Matched.Matching.{matching_pdi_none, opener_is_no_pdi}
use Rattle.explicit.proofs.Matched.Nesting.{match_bounds}
use Rattle.explicit.proofs.Matched.PartnerOf.{partner_of_other}
use Rattle.explicit.proofs.Holders.MatchedIsolates.{level-at_most}

-- the value for each position is the one at it in the list
pub get_or-of_positions : {A : Type 0} (cs : List Class) (f : ℕ → A) (p : ℕ) (d : A) → p < length cs →
    get_or (map f (positions_of cs)) p d ≡ f p
get_or-of_positions cs f p d h =
    let n : length (positions_of cs) ≡ length cs = length-positions_from 0 (length cs) in
    let at : get_or (positions_of cs) p 0 ≡ p = omega (arith, get_or-positions_from 0 (length cs) p 0 h) in
    get_or-map f (positions_of cs) p 0 d (omega (arith, n)) ∙ ap f at

pub length-of_positions : {A : Type 0} (cs : List Class) (f : ℕ → A) → length (map f (positions_of cs)) ≡ length cs
length-of_positions cs f = length-map (positions_of cs) f ∙ length-positions_from 0 (length cs)

-- the level that the sequences see
pub level-read : (depth : ℕ) (cs : List Class) (para p : ℕ) → p < length cs →
    level_of (leveled_of depth cs para) p ≡ option_map (λ leveled. leveled.0) (explicit_at depth cs para p)
level-read depth cs para p h =
    let n : length (explicit_of depth cs para) ≡ length cs = length-of_positions cs (explicit_at depth cs para) in
    get_or-map (option_map (λ leveled. leveled.0)) (explicit_of depth cs para) p None None (omega (arith, n)) ∙
    ap (option_map (λ leveled. leveled.0)) (get_or-of_positions cs (explicit_at depth cs para) p None h)

pub size-is : (depth : ℕ) (cs : List Class) (para : ℕ) → size_of (leveled_of depth cs para) ≡ length cs
size-is depth cs para = length-map (explicit_of depth cs para) (option_map (λ leveled. leveled.0)) ∙
    length-of_positions cs (explicit_at depth cs para)

-- past the end there is no initiator
pub opener_within : (cs : List Class) (i : ℕ) → is_isolate_initiator (class_at cs i) ≡ true → i < length cs
opener_within cs i h = grind (arith, get_or_past)

-- the matching PDI that the sequences see
pub matched-is : (depth : ℕ) (cs : List Class) (para i : ℕ) →
    matched_pdi (leveled_of depth cs para) i ≡ matching_pdi cs i
matched-is depth cs para i =
    grind (arith, get_or-of_positions, opener_within, partner_of_other, opener_is_no_pdi, matching_pdi_none)

if_some_level : (leveled : Option (ℕ × Class)) → IfSome leveled (λ x. x.0 ≤ 125) →
    IfSome (option_map (λ x. x.0) leveled) (λ l. l ≤ 125)
if_some_level None h = tt
if_some_level (Some x) h = h

pub leveled : (depth : ℕ) (cs : List Class) (para : ℕ) → depth ≤ 125 → para ≤ 1 → IsLeveled (leveled_of depth cs para)
leveled depth cs para deep low =
    let n = size-is depth cs para in
    record {
      classes_fit = sym n;
      partners_fit = length-of_positions cs (partner_of cs) ∙ sym n;
      base_within = low;
      levels_within = λ p. elim (cases_lt p (length cs)) [
        | inl lt ↦
            let P : Option ℕ → Type 0 = λ o. IfSome o (λ l. l ≤ 125) in
            subst P (sym (level-read depth cs para p lt)) (if_some_level (explicit_at depth cs para p)
            (level-at_most depth cs para p 125 deep (omega arith)))
        | inr past ↦
            let P : Option ℕ → Type 0 = λ o. IfSome o (λ l. l ≤ 125) in
            subst P (sym (get_or_past (leveled_of depth cs para).levels p None (omega (arith, n)))) tt
      ];
      later = λ i. later i (matched_pdi (leveled_of depth cs para) i) refl;
    }
  where
    later : (i : ℕ) (m : Option ℕ) → matched_pdi (leveled_of depth cs para) i ≡ m →
        IfSome m (λ q. (i < q) × (q < size_of (leveled_of depth cs para)))
    later i None e = tt
    later i (Some q) e =
        let b = match_bounds cs i q (sym (matched-is depth cs para i) ∙ e) in
        (b.0, omega (arith, b.1, size-is depth cs para))
