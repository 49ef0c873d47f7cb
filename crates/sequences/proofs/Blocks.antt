-- Successive positions that a pass handles eight at a time.
use Rattle.std.specs.Prelude.{ℕ, ◌+◌, ◌<◌, ◌≤◌, ◌≡◌, Bool, true, false, not, ◌&&◌, ◌||◌, List, refl}
use Rattle.std.proofs.Common.{arith, sym, ◌∙◌, subst, inl, inr}
use Rattle.std.proofs.lemmas.Bool.{cases_eq, cases_lt, and_parts, or_parts, not-true, false≢true}
use Rattle.sequences.specs.Blocks.{AreJoined}
use Rattle.sequences.specs.Links.{is_joined}

-- what holds of eight successive positions, holds of each
module _ (P : ℕ → Type 0) where
  each_of_four : (k : ℕ) → P k → P (k + 1) → P (k + 2) → P (k + 3) → (p : ℕ) → k ≤ p → p < k + 4 → P p
  each_of_four k p0 p1 p2 p3 p low high =
      elim (cases_eq p k) [
        | inl e ↦ subst P (sym e) p0
        | inr n0 ↦ elim (cases_eq p (k + 1)) [
          | inl e ↦ subst P (sym e) p1
          | inr n1 ↦ elim (cases_eq p (k + 2)) [
            | inl e ↦ subst P (sym e) p2
            | inr n2 ↦ let e : p ≡ k + 3 = omega arith in subst P (sym e) p3
          ]
        ]
      ]

  each_of_eight : (k : ℕ) → P k → P (k + 1) → P (k + 2) → P (k + 3) → P (k + 4) → P (k + 5) → P (k + 6) → P (k + 7) →
      (p : ℕ) → k ≤ p → p < k + 8 → P p
  each_of_eight k p0 p1 p2 p3 p4 p5 p6 p7 p low high =
      elim (cases_lt p (k + 4)) [
        | inl near ↦ each_of_four k p0 p1 p2 p3 p low near
        | inr far ↦
            let e5 : k + 5 ≡ k + 4 + 1 = omega arith in
            let e6 : k + 6 ≡ k + 4 + 2 = omega arith in
            let e7 : k + 7 ≡ k + 4 + 3 = omega arith in
            each_of_four (k + 4) p4 (subst P e5 p5) (subst P e6 p6) (subst P e7 p7) p far (omega arith)
      ]

  -- if all four tests are true
  pub all_of_four : (k : ℕ) (a b c d : Bool) → (a ≡ true → P k) → (b ≡ true → P (k + 1)) → (c ≡ true → P (k + 2)) →
      (d ≡ true → P (k + 3)) → (((a && b) && c) && d) ≡ true → (p : ℕ) → k ≤ p → p < k + 4 → P p
  all_of_four k a b c d at0 at1 at2 at3 all =
      let h3 = and_parts _ d all in
      let h2 = and_parts _ c h3.0 in
      let h1 = and_parts a b h2.0 in
      each_of_four k (at0 h1.0) (at1 h1.1) (at2 h2.1) (at3 h3.1)

  -- if all eight tests are true
  pub all_of_eight : (k : ℕ) (a b c d e f g h : Bool) → (a ≡ true → P k) → (b ≡ true → P (k + 1)) →
      (c ≡ true → P (k + 2)) → (d ≡ true → P (k + 3)) → (e ≡ true → P (k + 4)) → (f ≡ true → P (k + 5)) →
      (g ≡ true → P (k + 6)) → (h ≡ true → P (k + 7)) →
      (((((((a && b) && c) && d) && e) && f) && g) && h) ≡ true → (p : ℕ) → k ≤ p → p < k + 8 → P p
  all_of_eight k a b c d e f g h at0 at1 at2 at3 at4 at5 at6 at7 all =
      let h7 = and_parts _ h all in
      let h6 = and_parts _ g h7.0 in
      let h5 = and_parts _ f h6.0 in
      let h4 = and_parts _ e h5.0 in
      let h3 = and_parts _ d h4.0 in
      let h2 = and_parts _ c h3.0 in
      let h1 = and_parts a b h2.0 in
      each_of_eight k (at0 h1.0) (at1 h1.1) (at2 h2.1) (at3 h3.1) (at4 h4.1) (at5 h5.1) (at6 h6.1) (at7 h7.1)

  -- if none of eight tests is true
  pub none_of_eight : (k : ℕ) (a b c d e f g h : Bool) → (a ≡ false → P k) → (b ≡ false → P (k + 1)) →
      (c ≡ false → P (k + 2)) → (d ≡ false → P (k + 3)) → (e ≡ false → P (k + 4)) → (f ≡ false → P (k + 5)) →
      (g ≡ false → P (k + 6)) → (h ≡ false → P (k + 7)) →
      not (((((((a || b) || c) || d) || e) || f) || g) || h) ≡ true → (p : ℕ) → k ≤ p → p < k + 8 → P p
  none_of_eight k a b c d e f g h at0 at1 at2 at3 at4 at5 at6 at7 none =
      let h7 = or_parts _ h (not-true _ none) in
      let h6 = or_parts _ g h7.0 in
      let h5 = or_parts _ f h6.0 in
      let h4 = or_parts _ e h5.0 in
      let h3 = or_parts _ d h4.0 in
      let h2 = or_parts _ c h3.0 in
      let h1 = or_parts a b h2.0 in
      each_of_eight k (at0 h1.0) (at1 h1.1) (at2 h2.1) (at3 h3.1) (at4 h4.1) (at5 h5.1) (at6 h6.1) (at7 h7.1)

-- a position that isn't free is marked
pub not_free : (joined free : Bool) → free ≡ not joined → free ≡ false → joined ≡ true
not_free true free e f = refl
not_free false free e f = absurd (false≢true (sym f ∙ e))

-- each of two successive stretches is marked
pub joined_both : (joined : List Bool) (from p end : ℕ) → AreJoined joined from p → AreJoined joined p end →
    AreJoined joined from end
joined_both joined from p end one other q low high = elim (cases_lt q p) [
  | inl before ↦ one q low before
  | inr following ↦ other q following high
]

-- one marked position more
pub joined_more : (joined : List Bool) (from p : ℕ) → AreJoined joined from p → is_joined joined p ≡ true →
    AreJoined joined from (p + 1)
joined_more joined from p before here q low high = elim (cases_eq q p) [
  | inl same ↦ rw same here
  | inr other ↦ before q low (omega arith)
]
