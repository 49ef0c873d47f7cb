-- The positions outside of all isolates, from one to the next.
use Rattle.std.specs.Prelude.{Some, None, Bool, true, false, ◌&&◌, ℕ, ◌+◌, ◌<◌, ◌≤◌, ◌≡◌, ◌≢◌, List, length, refl}
use Rattle.std.proofs.Common.{arith, sym, ◌∙◌}
use Rattle.std.proofs.lemmas.Bool.{and_parts, false≢true, both_ways}
use Rattle.units.specs.Classes.{class_at, is_isolate_initiator, is_strong}
use Rattle.units.specs.Isolates.{first_strong, isolate_around, isolate_holds, matching_pdi}
use Rattle.units.specs.Positions.{same_position}
use Rattle.units.specs.declared.class.Class.{Class}
use Rattle.units.proofs.Positions.{first_from_is, first_from_nowhere, last_below_none, same_position_true}
use Rattle.explicit.proofs.StrongSides.Around.{around_nowhere}
use Rattle.explicit.proofs.Matched.Nesting.{IsContained, holds_from, holds_down, inner_match}

-- a position inside an isolate is not outside of all isolates
pub within_isolate : (cs : List Class) (i p : ℕ) → IsContained cs i p → isolate_around cs p ≢ None
unfolding isolate_around
within_isolate cs i p h none = false≢true (sym (last_below_none (λ i. isolate_holds cs i p) p none i h.after) ∙
    holds_from cs i p h)

module _ (cs : List Class) (p : ℕ) (outside : isolate_around cs p ≡ None) where
  in_no_isolate : (i : ℕ) → IsContained cs i p → ⊥
  in_no_isolate i h = within_isolate cs i p h outside

  -- the position after one that begins no isolate is outside
  pub outside_next : is_isolate_initiator (class_at cs p) ≡ false → isolate_around cs (p + 1) ≡ None
  outside_next plain = grind (arith, around_nowhere, both_ways, in_no_isolate, holds_down)

  -- so is the PDI that matches the isolate initiator
  pub outside_match : (a : ℕ) → p < a → matching_pdi cs p ≡ Some a → isolate_around cs a ≡ None
  outside_match a later match = grind (arith, around_nowhere, in_no_isolate, holds_down, inner_match)

  -- all positions up to this PDI are inside
  pub inside_match : is_isolate_initiator (class_at cs p) ≡ true → (a : ℕ) → matching_pdi cs p ≡ Some a → (q : ℕ) →
      p < q → q < a → isolate_around cs q ≢ None
  inside_match opener a match q following before =
      within_isolate cs p q (record {
        opener = opener;
        after = following;
        before = λ b e. let same : a ≡ b =
            (let both : Some a ≡ Some b = sym match ∙ e in cc) in omega (arith, same);
      })

  -- all positions after the initiator are inside, if no PDI matches it
  pub inside_unmatched : is_isolate_initiator (class_at cs p) ≡ true → matching_pdi cs p ≡ None → (q : ℕ) → p < q →
      isolate_around cs q ≢ None
  inside_unmatched opener none q following =
      within_isolate cs p q (record {
        opener = opener;
        after = following;
        before =
            λ b e. absurd (let both : Some b ≡ None = sym e ∙ none in cc);
      })

-- a strong position outside of all isolates
abbrev pub decides : List Class → ℕ → Bool
decides cs q = is_strong (class_at cs q) && same_position (isolate_around cs q) None

pub decides_outside : (cs : List Class) (q : ℕ) → is_strong (class_at cs q) ≡ true → isolate_around cs q ≡ None →
    decides cs q ≡ true
decides_outside cs q strong outside = rw (strong, outside) refl

pub weak_undecided : (cs : List Class) (q : ℕ) → is_strong (class_at cs q) ≡ false → decides cs q ≡ false
weak_undecided cs q weak = rw weak refl

pub inside_undecided : (cs : List Class) (q : ℕ) → isolate_around cs q ≢ None → decides cs q ≡ false
inside_undecided cs q inside = grind (arith, same_position_true, and_parts)

-- no position before p decides, and p is outside of all isolates
pub record IsUndecided (cs : List Class) (p : ℕ) : Type 0 where
  pub within : p ≤ length cs
  pub before : (q : ℕ) → q < p → decides cs q ≡ false
  pub outside : p < length cs → isolate_around cs p ≡ None

pub undecided_start : (cs : List Class) → IsUndecided cs 0
unfolding isolate_around
undecided_start cs = record { within = omega arith; before = λ q l. absurd (omega arith); outside = λ l. refl }

pub undecided_next : (cs : List Class) (p next : ℕ) → IsUndecided cs p → is_strong (class_at cs p) ≡ false → p < next →
    next ≤ length cs →
    (next < length cs → isolate_around cs next ≡ None) → ((q : ℕ) → p < q → q < next → isolate_around cs q ≢ None) →
    IsUndecided cs next
undecided_next cs p next w weak later within outside inside = grind (arith, weak_undecided, inside_undecided)

pub decided_at : (cs : List Class) (p : ℕ) → IsUndecided cs p → p < length cs → is_strong (class_at cs p) ≡ true →
    first_strong cs None ≡ Some p
unfolding first_strong
decided_at cs p w within strong =
    first_from_is (decides cs) 0 (length cs) p (omega arith) (omega arith)
    (decides_outside cs p strong (w.outside within)) (λ q from before. w.before q before)

pub decided_nowhere : (cs : List Class) (p : ℕ) → IsUndecided cs p → length cs ≤ p → first_strong cs None ≡ None
unfolding first_strong
decided_nowhere cs p w end = first_from_nowhere (decides cs) 0 (length cs) (λ q from before. w.before q (omega arith))
