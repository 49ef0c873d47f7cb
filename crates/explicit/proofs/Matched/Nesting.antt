-- Isolates nest or are apart.
use Rattle.std.proofs.Common.{◌≡◌, ℕ, ◌<◌, ◌≤◌, true, List, length, Some, ◌⊎◌, inl, inr, sym, ◌∙◌, arith}
use Rattle.std.proofs.lemmas.Bool.{cases_Bool, false≢true, and_parts, and_from, ltb-true, lt-ltb}
use Rattle.units.specs.Classes.{class_at, is_isolate_initiator, is_pdi}
use Rattle.units.specs.Isolates.{matching_pdi, isolate_holds}
use Rattle.units.specs.declared.class.Class.{Class}
use Rattle.explicit.specs.IsolateNesting.{IsWithin, AreApart}
use Rattle.explicit.proofs.Matched.Balance.{match_of_bounds, match_closes, match_inner, match_once}
use Rattle.explicit.proofs.Matched.Matching.{opens_at, closes_at, isolates_exclude, matching_pdi_of, matching_pdi_opens, matching_pdi_before}

pub match_bounds : (cs : List Class) (i a : ℕ) → matching_pdi cs i ≡ Some a → (i < a) × (a < length cs)
match_bounds cs i a e = match_of_bounds (opens_at cs) (closes_at cs) (length cs) i a (matching_pdi_before cs i a e)

-- the match of an initiator is a PDI
pub match_is_pdi : (cs : List Class) (i a : ℕ) → matching_pdi cs i ≡ Some a → is_pdi (class_at cs a) ≡ true
match_is_pdi cs i a e =
    match_closes (opens_at cs) (closes_at cs) (length cs) i a (isolates_exclude cs) (matching_pdi_opens cs i a e)
    (matching_pdi_before cs i a e)

-- the isolate of an initiator inside another one ends inside it
pub inner_match : (cs : List Class) (i j a : ℕ) → matching_pdi cs i ≡ Some a → i < j → j < a →
    is_isolate_initiator (class_at cs j) ≡ true → (b : ℕ) × (matching_pdi cs j ≡ Some b) × (b < a)
inner_match cs i j a e ij ja opener =
    let m = match_inner (opens_at cs) (closes_at cs) (length cs) i j a (isolates_exclude cs)
    (matching_pdi_opens cs i a e) opener (matching_pdi_before cs i a e) ij ja in
    (m.0, matching_pdi_of cs j opener ∙ m.1, m.2)

-- no PDI matches two initiators
pub match_injective : (cs : List Class) (i j a : ℕ) → matching_pdi cs i ≡ Some a → matching_pdi cs j ≡ Some a → i ≡ j
match_injective cs i j a e e' =
    match_once (opens_at cs) (closes_at cs) (length cs) i j a (isolates_exclude cs) (matching_pdi_opens cs i a e)
    (matching_pdi_opens cs j a e') (matching_pdi_before cs i a e) (matching_pdi_before cs j a e')

-- the isolate that begins at i contains p, in parts
pub record IsContained (cs : List Class) (i : ℕ) (p : ℕ) : Type 0 where
  pub opener : is_isolate_initiator (class_at cs i) ≡ true
  pub after : i < p
  pub before : (a : ℕ) → matching_pdi cs i ≡ Some a → p < a

pub contained : (cs : List Class) (i p : ℕ) → isolate_holds cs i p ≡ true → IsContained cs i p
unfolding isolate_holds
contained cs i p h = grind (arith, and_parts, ltb-true)

pub holds_from : (cs : List Class) (i p : ℕ) → IsContained cs i p → isolate_holds cs i p ≡ true
unfolding isolate_holds
holds_from cs i p h = grind (arith, and_from, lt-ltb)

-- an outer isolate contains what an inner one contains
pub holds_through : (cs : List Class) (i j p : ℕ) → IsContained cs i j → IsContained cs j p → IsContained cs i p
holds_through cs i j p outer inner = grind (arith, inner_match)

-- an isolate contains the positions from its beginning to any position in it
pub holds_down : (cs : List Class) (i p q : ℕ) → IsContained cs i p → i < q → q ≤ p → IsContained cs i q
holds_down cs i p q h lt le = record { opener = h.opener; after = lt; before = λ a e. omega (arith, h.before a e) }

-- if two isolates contain a position, then the outer one contains the beginning of the inner one
pub holds_nested : (cs : List Class) (i j p : ℕ) → IsContained cs i p → IsContained cs j p → i < j → IsContained cs i j
holds_nested cs i j p hi hj lt = holds_down cs i p j hi lt (omega (arith, hj.after))

-- the isolate that begins later lies within the other one, or the two are apart
pub nest_or_apart : (cs : List Class) (outer inner : ℕ) → outer < inner → IsWithin cs inner outer ⊎
    AreApart cs inner outer
nest_or_apart cs outer inner lt =
    elim (cases_Bool (isolate_holds cs outer inner)) [
      | inl t ↦ inl (λ p h.
          holds_from cs outer p (holds_through cs outer inner p (contained cs outer inner t) (contained cs inner p h)))
      | inr f ↦ inr (λ p h h'.
          false≢true (sym f ∙ holds_from cs outer inner (holds_nested cs outer inner p (contained cs outer p h')
          (contained cs inner p h) lt)))
    ]
