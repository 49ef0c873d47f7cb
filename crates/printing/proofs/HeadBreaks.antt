-- Where lines begin in a text, from its first paragraph and the rest.
use Rattle.std.proofs.Common.{◌≡◌, ℕ, zero, suc, ◌+◌, ◌-◌, ◌<◌, Bool, true, false, List, [], ◌∷◌, ◌++◌, length, map, refl, sym, ap, ◌∙◌, inl, inr, arith, ne_eqb}
use Rattle.std.specs.Prelude.{◌||◌, ◌==◌}
use Rattle.std.proofs.lemmas.Bool.{cases_eq}
use Rattle.std.proofs.lemmas.List.{get_or_append_left, get_or-append-add}
use Rattle.std.proofs.lemmas.List.Folds.{list_any-append}
use Rattle.units.specs.Classes.{class_at, is_separator}
use Rattle.units.specs.Reordering.{begins_line, is_break}
use Rattle.units.specs.declared.class.Class.{Class}
use Rattle.units.specs.declared.class.Class.TheVariants.{L}

-- P1: these are the classes of one paragraph, which ends with a separator
pub record EndsAsParagraph (own : List Class) : Type 0 where
  pub some : 0 < length own
  pub plain : (j : ℕ) → j + 1 < length own → is_separator (class_at own j) ≡ false
  pub ends : is_separator (class_at own (length own - 1)) ≡ true

-- each position is below the end
abbrev pub AreBelow : ℕ → List ℕ → Type 0
AreBelow n [] = Unit {0}
AreBelow n (p ∷ ps) = (p < n) × AreBelow n ps

-- positions after n others
abbrev pub following : ℕ → List ℕ → List ℕ
following n ps = map (λ p. n + p) ps

eqb_moved : (n b j : ℕ) → (n + b == n + j) ≡ (b == j)
eqb_moved n b j = elim (cases_eq b j) [
  | inl e ↦ grind arith
  | inr ne ↦ ne_eqb (n + b) (n + j) (omega arith) ∙ sym (ne_eqb b j ne)
]

none_before : (n p : ℕ) (bs : List ℕ) → p < n → is_break (following n bs) p ≡ false
none_before n p [] low = refl
none_before n p (b ∷ bs) low = rw (ne_eqb (n + b) p (omega arith)) (none_before n p bs low)

break_moved : (n j : ℕ) (bs : List ℕ) → is_break (following n bs) (n + j) ≡ is_break bs j
break_moved n j [] = refl
break_moved n j (b ∷ bs) = rw (eqb_moved n b j, break_moved n j bs) refl

none_past : (n j : ℕ) (bs : List ℕ) → AreBelow n bs → is_break bs (n + j) ≡ false
none_past n j [] all = refl
none_past n j (b ∷ bs) all = rw (ne_eqb b (n + j) (omega (arith, all.0))) (none_past n j bs all.1)

or_none : (a : Bool) → (a || false) ≡ a
or_none true = refl
or_none false = refl

module _ (own rest : List Class) (bs cs : List ℕ) where
  abbrev n : ℕ
  n = length own

  abbrev whole : List Class
  whole = own ++ rest

  abbrev at : List ℕ
  at = bs ++ following (length own) cs

  pub class_in_first : (p : ℕ) → p < length own → class_at (own ++ rest) p ≡ class_at own p
  class_in_first p low = get_or_append_left own rest L p low

  pub class_in_second : (j : ℕ) → class_at (own ++ rest) (length own + j) ≡ class_at rest j
  class_in_second j = get_or-append-add own rest j L

  break_in_first : (p : ℕ) → p < length own → is_break at p ≡ is_break bs p
  break_in_first p low =
      list_any-append (λ b. b == p) bs (following n cs)
      ∙ ap (λ t. is_break bs p || t) (none_before n p cs low) ∙ or_none (is_break bs p)

  break_in_second : (j : ℕ) → AreBelow (length own) bs → is_break at (length own + j) ≡ is_break cs j
  break_in_second j all =
      list_any-append (λ b. b == n + j) bs (following n cs)
      ∙ ap (λ t. t || is_break (following n cs) (n + j)) (none_past n j bs all) ∙ break_moved n j cs

  pub begins_in_first : (p : ℕ) → p < length own → begins_line (own ++ rest) (bs ++ following (length own) cs) p ≡
      begins_line own bs p
  begins_in_first p low =
      ap (λ c. (p == 0) || is_separator c || is_break at p) (class_in_first (p - 1) (omega arith))
      ∙ ap (λ t. (p == 0) || is_separator (class_at own (p - 1)) || t) (break_in_first p low)

  pub begins_right : (j : ℕ) → EndsAsParagraph own → AreBelow (length own) bs →
      begins_line (own ++ rest) (bs ++ following (length own) cs) (length own + j) ≡ begins_line rest cs j
  begins_right zero h all =
      let some = h.some in
      let e : n + 0 - 1 ≡ n - 1 = omega arith in
      let c : is_separator (class_at whole (n + 0 - 1)) ≡ true =
      ap (λ q. is_separator (class_at whole q)) e ∙ ap is_separator (class_in_first (n - 1) (omega arith)) ∙ h.ends in
      ap (λ t. t || is_separator (class_at whole (n + 0 - 1)) || is_break at (n + 0)) (ne_eqb (n + 0) 0 (omega arith))
      ∙ ap (λ t. t || is_break at (n + 0)) c
  begins_right (suc i) h all =
      let some = h.some in
      let e : n + suc i - 1 ≡ n + i = omega arith in
      let f : suc i - 1 ≡ i = omega arith in
      ap (λ t. t || is_separator (class_at whole (n + suc i - 1)) || is_break at (n + suc i))
      (ne_eqb (n + suc i) 0 (omega arith))
      ∙ ap (λ q. is_separator (class_at whole q) || is_break at (n + suc i)) e
      ∙ ap (λ c. is_separator c || is_break at (n + suc i)) (class_in_second i)
      ∙ ap (λ t. is_separator (class_at rest i) || t) (break_in_second (suc i) all)
      ∙ sym (ap (λ q. is_separator (class_at rest q) || is_break cs (suc i)) f)
      ∙ sym (ap (λ t. t || is_separator (class_at rest (suc i - 1)) || is_break cs (suc i))
      (ne_eqb (suc i) 0 (omega arith)))
