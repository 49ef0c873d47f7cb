-- Stretches of a line with one level, position by position and several positions at a time.
use Rattle.std.proofs.Common.{◌≡◌, ◌≢◌, ◌⊎◌, ℕ, ◌+◌, ◌<◌, ◌≤◌, Bool, true, false, Option, None, List, refl, sym, ap, subst, ◌∙◌, inl, inr, arith}
use Rattle.std.specs.Prelude.{◌||◌, slice_index_or}
use Rattle.std.proofs.lemmas.Bool.{cases_eq, cases_lt}
use Rattle.lines.specs.LinePositions.{HasLevel, IsAtOneLevel}

-- no position
pub level_of_none : (levels : List (Option ℕ)) (start level : ℕ) → IsAtOneLevel levels start start level
level_of_none levels start level = record { same = λ p v low high is. absurd (omega arith) }

-- one position, which was removed or has the level
pub level_of_one : (levels : List (Option ℕ)) (position level : ℕ) →
    ((v : ℕ) → HasLevel levels position v → v ≡ level) → IsAtOneLevel levels position (position + 1) level
level_of_one levels position level here = record {
  same = λ p v low high is.
      let e : p ≡ position = omega arith in
      here v (ap (λ n. slice_index_or levels n None) (sym e) ∙ is);
}

-- two stretches that follow one another
pub level_of_both : (levels : List (Option ℕ)) (start middle end level : ℕ) → IsAtOneLevel levels start middle level →
    IsAtOneLevel levels middle end level → IsAtOneLevel levels start end level
level_of_both levels start middle end level one other = record {
  same = λ p v low high is. elim (cases_lt p middle) [
    | inl before ↦ one.same p v low before is
    | inr following ↦ other.same p v following high is
  ];
}

-- none of two tests holds
pub none_of_both : (a b : Bool) → (a || b) ≡ false → (a ≡ false) × (b ≡ false)
none_of_both true b h = absurd (cc)
none_of_both false b h = (refl, h)

none_of_four : (a b c d : Bool) → (((a || b) || c) || d) ≡ false → (a ≡ false) × (b ≡ false) × (c ≡ false) × (d ≡ false)
none_of_four true b c d h = absurd (cc)
none_of_four false true c d h = absurd (cc)
none_of_four false false true d h = absurd (cc)
none_of_four false false false d h = (refl, refl, refl, h)

-- a position and the three after it
pub level_of_four : (levels : List (Option ℕ)) (k level : ℕ) (a b c d : Bool) →
    (a ≡ false → IsAtOneLevel levels k (k + 1) level) →
    (b ≡ false → IsAtOneLevel levels (k + 1) (k + 1 + 1) level) →
    (c ≡ false → IsAtOneLevel levels (k + 2) (k + 2 + 1) level) →
    (d ≡ false → IsAtOneLevel levels (k + 3) (k + 3 + 1) level) →
    (((a || b) || c) || d) ≡ false → IsAtOneLevel levels k (k + 4) level
level_of_four levels k level a b c d at0 at1 at2 at3 h =
    let none = none_of_four a b c d h in
    record {
      same = λ p v low high is. elim (cases_eq p k) [
        | inl e ↦ (at0 none.0).same p v low (omega arith) is
        | inr n0 ↦ elim (cases_eq p (k + 1)) [
          | inl e ↦ (at1 none.1).same p v (omega arith) (omega arith) is
          | inr n1 ↦ elim (cases_eq p (k + 2)) [
            | inl e ↦ (at2 none.2).same p v (omega arith) (omega arith) is
            | inr n2 ↦ (at3 none.3).same p v (omega arith) (omega arith) is
          ]
        ]
      ];
    }

-- a position and the seven after it
pub level_of_eight : (levels : List (Option ℕ)) (k level : ℕ) (a b : Bool) →
    (a ≡ false → IsAtOneLevel levels k (k + 4) level) → (b ≡ false → IsAtOneLevel levels (k + 4) (k + 4 + 4) level) →
    (a || b) ≡ false → IsAtOneLevel levels k (k + 8) level
level_of_eight levels k level a b front back h =
    let none = none_of_both a b h in
    let end : k + 4 + 4 ≡ k + 8 = omega arith in
    level_of_both levels k (k + 4) (k + 8) level (front none.0)
    (subst (λ n. IsAtOneLevel levels (k + 4) n level) end (back none.1))

-- one of two tests holds
one_of_both : (a b : Bool) → (a || b) ≡ true → (a ≡ true) ⊎ (b ≡ true)
one_of_both true b h = inl refl
one_of_both false b h = inr h

-- a stretch that has a position of another level
pub no_level_of : (levels : List (Option ℕ)) (start end position level : ℕ) → start ≤ position → position < end →
    ((v : ℕ) × HasLevel levels position v × (v ≢ level)) → ¬ IsAtOneLevel levels start end level
no_level_of levels start end position level low high other at = other.2 (at.same position other.0 low high other.1)

-- a part of a stretch
level_of_part : (levels : List (Option ℕ)) (start end from to level : ℕ) → start ≤ from → to ≤ end →
    IsAtOneLevel levels start end level → IsAtOneLevel levels from to level
level_of_part levels start end from to level low high at = record {
  same = λ p v above below is. at.same p v (omega arith) (omega arith) is;
}

-- four positions, of which one has another level
pub no_level_of_four : (levels : List (Option ℕ)) (k level : ℕ) (a b c d : Bool) →
    (a ≡ true → (v : ℕ) × HasLevel levels k v × (v ≢ level)) →
    (b ≡ true → (v : ℕ) × HasLevel levels (k + 1) v × (v ≢ level)) →
    (c ≡ true → (v : ℕ) × HasLevel levels (k + 2) v × (v ≢ level)) →
    (d ≡ true → (v : ℕ) × HasLevel levels (k + 3) v × (v ≢ level)) →
    (((a || b) || c) || d) ≡ true → ¬ IsAtOneLevel levels k (k + 4) level
no_level_of_four levels k level a b c d at0 at1 at2 at3 h =
    elim (one_of_both ((a || b) || c) d h) [
      | inr e ↦ no_level_of levels k (k + 4) (k + 3) level (omega arith) (omega arith) (at3 e)
      | inl h3 ↦ elim (one_of_both (a || b) c h3) [
        | inr e ↦ no_level_of levels k (k + 4) (k + 2) level (omega arith) (omega arith) (at2 e)
        | inl h2 ↦ elim (one_of_both a b h2) [
          | inr e ↦ no_level_of levels k (k + 4) (k + 1) level (omega arith) (omega arith) (at1 e)
          | inl e ↦ no_level_of levels k (k + 4) k level (omega arith) (omega arith) (at0 e)
        ]
      ]
    ]

-- eight of them
pub no_level_of_eight : (levels : List (Option ℕ)) (k level : ℕ) (a b : Bool) →
    (a ≡ true → ¬ IsAtOneLevel levels k (k + 4) level) → (b ≡ true → ¬ IsAtOneLevel levels (k + 4) (k + 4 + 4) level) →
    (a || b) ≡ true → ¬ IsAtOneLevel levels k (k + 8) level
no_level_of_eight levels k level a b front back h at =
    elim (one_of_both a b h) [
      | inl e ↦ front e (level_of_part levels k (k + 8) k (k + 4) level (omega arith) (omega arith) at)
      | inr e ↦ back e (level_of_part levels k (k + 8) (k + 4) (k + 4 + 4) level (omega arith) (omega arith) at)
    ]
