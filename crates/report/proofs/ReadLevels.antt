-- Expected levels as they are compared, beside those of a layout.
use Rattle.std.proofs.Common.{◌≡◌, ◌≢◌, ℕ, zero, suc, ◌+◌, ◌<◌, ◌≤◌, ◌&&◌, min, Bool, true, false, not, Option, None, Some, List, [], ◌∷◌, length, drop, get_or, refl, sym, ap, ap₂, ◌∙◌, arith, length-drop}
use Rattle.std.specs.Prelude.{if◌then◌else◌, nat_eq}
use Rattle.std.specs.List.{slice_get}
use Rattle.std.specs.Option.{option_or}
use Rattle.std.proofs.lemmas.Bool.{false≢true}
use Rattle.std.proofs.lemmas.List.{drop_more}
use Rattle.std.proofs.lemmas.Option.{none-some, same_Some}
use Rattle.units.specs.Layout.{TextLayout, all_orders}
use Rattle.units.specs.Positions.{same_position}
use Rattle.units.proofs.Positions.{same_position_refl}
use Rattle.bidtests.specs.declared.verdict.Place.TheVariants.{ParaLevel as AtParaLevel, Levels as AtLevels, Order as AtOrder}
use Rattle.bidtests.specs.Verdicts.{Expected, first_difference, placed_in}
use Rattle.report.specs.declared.terms.Leniency.{Leniency}
use Rattle.report.specs.declared.terms.Parts.{Parts}
use Rattle.report.specs.declared.terms.Parts.TheVariants as parts
use Rattle.report.specs.declared.terms.Positions.{Positions}
use Rattle.report.specs.declared.terms.Positions.TheVariants.{All, Shown}
use Rattle.report.specs.ReadExpected.{is_compared, level_shown, levels_read, levels_shown, order_read, place_in, read_expected}

abbrev Levels : Type 0
Levels = List (Option ℕ)

-- the first difference of the expected levels as they are compared
abbrev pub difference : Positions → Levels → Levels → ℕ → Option ℕ
difference compared levels claimed at =
    first_difference same_position (levels_read parts.All compared levels claimed) levels at

-- the expected level is another one, and compared
abbrev is_other : Positions → Option ℕ → Option ℕ → Bool
is_other compared claimed level = is_compared compared level && not (same_position claimed level)

-- a level that is skipped or agrees
level-agrees : (compared : Positions) (level claimed : Option ℕ) (levels more : Levels) (at : ℕ) →
    is_other compared claimed level ≡ false
    → difference compared (level ∷ levels) (claimed ∷ more) at ≡ difference compared levels more (at + 1)
level-agrees All level claimed levels more at passed = by (same_position claimed level) refl where
  by : (b : Bool) → same_position claimed level ≡ b →
      difference All (level ∷ levels) (claimed ∷ more) at ≡ difference All levels more (at + 1)
  by true e = rw e refl
  by false e = let other : true ≡ false = rw e at passed in absurd (false≢true (sym other))
level-agrees Shown None claimed levels more at passed = refl
level-agrees Shown (Some level) claimed levels more at passed = by (same_position claimed (Some level)) refl where
  by : (b : Bool) → same_position claimed (Some level) ≡ b
      → difference Shown (Some level ∷ levels) (claimed ∷ more) at ≡ difference Shown levels more (at + 1)
  by true e = rw e refl
  by false e = let other : true ≡ false = rw e at passed in absurd (false≢true (sym other))

pub level-passed : (compared : Positions) (levels claimed : Levels) (i : ℕ) (d e : Option ℕ) → i < length levels →
    i < length claimed
    → is_other compared (get_or claimed i e) (get_or levels i d) ≡ false
    → difference compared (drop i levels) (drop i claimed) i ≡
    difference compared (drop (i + 1) levels) (drop (i + 1) claimed) (i + 1)
level-passed compared levels claimed i d e lt within passed =
    ap₂ (λ ls cs. difference compared ls cs i) (drop_more levels i d lt) (drop_more claimed i e within)
    ∙ level-agrees compared (get_or levels i d) (get_or claimed i e) (drop (i + 1) levels)
    (drop (i + 1) claimed) i passed

-- at the end of one of the lists
pub level-ends : (compared : Positions) (levels claimed : Levels) (at : ℕ) → min (length claimed) (length levels) ≡ 0
    → length claimed ≢ length levels → difference compared levels claimed at ≡ Some at
level-ends All [] [] at e ne = absurd (ne refl)
level-ends All [] (c ∷ claimed) at e ne = refl
level-ends All (level ∷ levels) [] at e ne = refl
level-ends All (level ∷ levels) (c ∷ claimed) at e ne = absurd (omega (arith, e))
level-ends Shown [] [] at e ne = absurd (ne refl)
level-ends Shown [] (c ∷ claimed) at e ne = refl
level-ends Shown (level ∷ levels) [] at e ne = refl
level-ends Shown (level ∷ levels) (c ∷ claimed) at e ne = absurd (omega (arith, e))

pub levels-end : (compared : Positions) (levels claimed : Levels) (n i : ℕ) → n ≡ min (length claimed) (length levels) →
    n ≤ i → i ≤ n
    → length claimed ≢ length levels →
    difference compared levels claimed 0 ≡ difference compared (drop i levels) (drop i claimed) i
    → Some n ≡ difference compared levels claimed 0
levels-end compared levels claimed n i is low high ne e =
    let same : n ≡ i = omega (arith, low, high) in
    let none : min (length (drop i claimed)) (length (drop i levels)) ≡ 0 =
    omega (arith, is, same, length-drop i claimed, length-drop i levels) in
    let other : length (drop i claimed) ≢ length (drop i levels) =
    λ s. ne (omega (arith, s, is, same, length-drop i claimed, length-drop i levels)) in
    ap (λ k. Some k) same ∙ sym (e ∙ level-ends compared (drop i levels) (drop i claimed) i none other)

-- levels beside themselves
pub no-difference : (levels : Levels) (at : ℕ) → first_difference same_position levels levels at ≡ None
no-difference [] at = refl
no-difference (level ∷ levels) at = rw (same_position_refl level) (no-difference levels (at + 1))

-- a difference is not before the index where the search began
at-least : (xs ys : Levels) (at n : ℕ) → first_difference same_position xs ys at ≡ Some n → at ≤ n
at-least [] [] at n e = absurd cc
at-least [] (y ∷ ys) at n e = omega (arith, same_Some _ _ e)
at-least (x ∷ xs) [] at n e = omega (arith, same_Some _ _ e)
at-least (x ∷ xs) (y ∷ ys) at n e = by (same_position x y) refl (at-least xs ys (at + 1) n) where
  by : (b : Bool) → same_position x y ≡ b → (first_difference same_position xs ys (at + 1) ≡ Some n → at + 1 ≤ n) →
      at ≤ n
  by true same rest = let later : first_difference same_position xs ys (at + 1) ≡ Some n = rw same at e in
      omega (arith, rest later)
  by false same rest = let here : Some at ≡ Some n = rw same at e in omega (arith, same_Some _ _ here)

-- the compared level at a difference is the expected one
shown-there : (levels claimed : Levels) (at i : ℕ) →
    first_difference same_position (levels_shown levels claimed) levels at ≡ Some (at + i)
    → slice_get (levels_shown levels claimed) i ≡ slice_get claimed i
shown-there levels [] at i e = refl
shown-there [] (c ∷ claimed) at i e = refl
shown-there (None ∷ levels) (c ∷ claimed) at zero e =
    absurd (omega (arith, at-least (levels_shown levels claimed) levels (at + 1) (at + 0) e))
shown-there (Some level ∷ levels) (c ∷ claimed) at zero e = refl
shown-there (level ∷ levels) (c ∷ claimed) at (suc i) e =
    by (same_position (level_shown level c) level) refl (shown-there levels claimed (at + 1) i) where
      by : (b : Bool) → same_position (level_shown level c) level ≡ b
          → (first_difference same_position (levels_shown levels claimed) levels (at + 1) ≡ Some (at + 1 + i)
          → slice_get (levels_shown levels claimed) i ≡ slice_get claimed i)
          → slice_get (levels_shown levels claimed) i ≡ slice_get claimed i
      by true same rest =
          let later : first_difference same_position (levels_shown levels claimed) levels (at + 1) ≡ Some (at + suc i) =
          rw same at e in
          let count : at + suc i ≡ at + 1 + i = omega arith in
          rest (later ∙ ap (λ n. Some n) count)
      by false same rest = let here : Some at ≡ Some (at + suc i) = rw same at e in
          absurd (omega (arith, same_Some _ _ here))

pub claimed-there : (compared : Positions) (levels claimed : Levels) (i : ℕ) →
    difference compared levels claimed 0 ≡ Some i
    → slice_get (levels_read parts.All compared levels claimed) i ≡ slice_get claimed i
claimed-there All levels claimed i e = refl
claimed-there Shown levels claimed i e = let at : i ≡ 0 + i = omega arith in
    shown-there levels claimed 0 i (e ∙ ap (λ n. Some n) at)

-- if the first difference is among the levels, it is theirs
which : (right : Bool) (d o : Option ℕ) (i : ℕ)
    → (if right then option_or (placed_in AtLevels d) (placed_in AtOrder o) else Some AtParaLevel) ≡ Some (AtLevels i) →
    d ≡ Some i
which true (Some j) o i e = cc
which true None (Some k) i e = absurd cc
which true None None i e = absurd cc
which false d o i e = absurd cc

read-there : (by : Parts) (compared : Positions) (levels claimed : Levels) (i : ℕ)
    → first_difference same_position (levels_read by compared levels claimed) levels 0 ≡ Some i
    → slice_get (levels_read by compared levels claimed) i ≡ slice_get claimed i
read-there parts.All compared levels claimed i e = claimed-there compared levels claimed i e
read-there parts.OrderAlone compared levels claimed i e = absurd (none-some i (sym (no-difference levels 0) ∙ e))

-- if the first difference is in a level, the compared level is the expected one
pub level-claimed : (l : Leniency) (layout : TextLayout) (expected : Expected) (i : ℕ) →
    place_in layout (read_expected l layout expected) ≡ Some (AtLevels i)
    → slice_get (read_expected l layout expected).levels i ≡ slice_get expected.levels i
level-claimed l layout expected i e =
    read-there l.parts l.positions layout.levels expected.levels i (which _ _ _ i e)

-- if only the order is compared, the place is in the order
pub order-place : (compared : Positions) (layout : TextLayout) (expected : Expected)
    → placed_in AtOrder (first_difference nat_eq (order_read compared layout.levels expected.order)
    (all_orders layout) 0)
    ≡ place_in layout (read_expected (record { parts = parts.OrderAlone; positions = compared }) layout expected)
order-place compared layout expected = rw (no-difference layout.levels 0) refl
