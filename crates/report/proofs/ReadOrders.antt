-- An expected order as it is compared, position by position.
use Rattle.std.proofs.Common.{◌≡◌, ℕ, zero, suc, ◌+◌, ◌<◌, ◌≤◌, Bool, true, false, Option, None, Some, List, [], ◌∷◌, length, drop, get_or, refl, sym, ap, ◌∙◌, arith}
use Rattle.std.specs.Prelude.{filter}
use Rattle.std.specs.List.{position, position_or_len, slice_get}
use Rattle.std.specs.Option.{option_map_or}
use Rattle.std.proofs.lemmas.Bool.{false≢true, lt-ltb}
use Rattle.std.proofs.lemmas.List.Quantifiers.{position-Some}
use Rattle.std.proofs.lemmas.Option.{none-some}
use Rattle.report.specs.declared.terms.Positions.{Positions}
use Rattle.report.specs.declared.terms.Positions.TheVariants.{All, Shown}
use Rattle.report.specs.ReadExpected.{is_compared, is_read, order_read}

-- if all positions are compared, each one is read
all-read : (levels : List (Option ℕ)) (p : ℕ) → is_read All levels p ≡ true
all-read levels p = by (slice_get levels p) where
  by : (level : Option (Option ℕ)) → option_map_or (is_compared All) level true ≡ true
  by None = refl
  by (Some level) = refl

order-pass : (compared : Positions) (levels : List (Option ℕ)) (p : ℕ) (ps : List ℕ) → is_read compared levels p ≡ false
    → order_read compared levels (p ∷ ps) ≡ order_read compared levels ps
order-pass All levels p ps e = absurd (false≢true (sym e ∙ all-read levels p))
order-pass Shown levels p ps e = rw e refl

order-read : (compared : Positions) (levels : List (Option ℕ)) (p : ℕ) (ps : List ℕ) → is_read compared levels p ≡ true
    → order_read compared levels (p ∷ ps) ≡ p ∷ order_read compared levels ps
order-read All levels p ps e = refl
order-read Shown levels p ps e = rw e refl

order-none : (compared : Positions) (levels : List (Option ℕ)) → order_read compared levels [] ≡ []
order-none All levels = refl
order-none Shown levels = refl

module _ (compared : Positions) (levels : List (Option ℕ)) where
  none-among : (order : List ℕ) → length order ≤ position_or_len (is_read compared levels) order →
      order_read compared levels order ≡ []
  none-among [] le = order-none compared levels
  none-among (p ∷ ps) le = by (is_read compared levels p) refl (none-among ps) where
    by : (b : Bool) → is_read compared levels p ≡ b
        → (length ps ≤ position_or_len (is_read compared levels) ps → order_read compared levels ps ≡ []) →
        order_read compared levels (p ∷ ps) ≡ []
    by true e rest = let none : length (p ∷ ps) ≤ 0 = rw e at le in absurd (omega (arith, none))
    by false e rest =
        let later : length (p ∷ ps) ≤ 1 + position_or_len (is_read compared levels) ps = rw e at le in
        order-pass compared levels p ps e ∙ rest (omega (arith, later))

  -- none of them is read
  pub none-read : (order : List ℕ) → position (is_read compared levels) order ≡ None →
      order_read compared levels order ≡ []
  none-read order e = none-among order (grind (arith, lt-ltb, none-some))

  first-at : (order : List ℕ) (i d : ℕ) → i < length order → is_read compared levels (get_or order i d) ≡ true
      → ((k : ℕ) → k < i → is_read compared levels (get_or order k d) ≡ false)
      → order_read compared levels order ≡ get_or order i d ∷ order_read compared levels (drop (suc i) order)
  first-at [] i d lt read others = absurd (omega (arith, lt))
  first-at (p ∷ ps) zero d lt read others = order-read compared levels p ps read
  first-at (p ∷ ps) (suc i) d lt read others =
      order-pass compared levels p ps (others 0 (omega arith))
      ∙ first-at ps i d (omega (arith, lt)) read (λ k le. others (suc k) (omega (arith, le)))

  -- the first of them that is read
  pub first-read : (order : List ℕ) (i d : ℕ) → position (is_read compared levels) order ≡ Some i
      → order_read compared levels order ≡ get_or order i d ∷ order_read compared levels (drop (i + 1) order)
  first-read order i d e =
      let at = position-Some (is_read compared levels) order i d e in
      let following : suc i ≡ i + 1 = omega arith in
      first-at order i d at.0 at.1 at.2 ∙
      ap (λ n. get_or order i d ∷ order_read compared levels (drop n order)) following

-- no more are read than there are
filter-shorter : (test : ℕ → Bool) (ps : List ℕ) → length (filter test ps) ≤ length ps
filter-shorter test [] = omega arith
filter-shorter test (p ∷ ps) = by (test p) refl (filter-shorter test ps) where
  by : (b : Bool) → test p ≡ b → length (filter test ps) ≤ length ps → length (filter test (p ∷ ps)) ≤ length (p ∷ ps)
  by true e rest = rw e (omega (arith, rest))
  by false e rest = rw e (omega (arith, rest))

pub no-more-read : (compared : Positions) (levels : List (Option ℕ)) (order : List ℕ) →
    length (order_read compared levels order) ≤ length order
no-more-read All levels order = omega arith
no-more-read Shown levels order = filter-shorter (is_read Shown levels) order
