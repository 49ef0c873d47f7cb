-- Differences between the expected lists and those of a layout, and the first wrong place of a case.
use Rattle.std.proofs.Common.{◌≡◌, ◌≢◌, ℕ, zero, suc, ◌+◌, ◌<◌, Bool, true, false, Option, None, Some, List, [], ◌∷◌, refl, sym, ap, arith}
use Rattle.std.specs.Prelude.{if◌then◌else◌, nat_eq, IfSome, MatchBool}
use Rattle.std.specs.List.{slice_get}
use Rattle.std.proofs.lemmas.Bool.{eqb-true, eqb-false, false≢true}
use Rattle.std.proofs.lemmas.Option.{none-some, same_Some}
use Rattle.units.specs.Positions.{same_position}
use Rattle.units.proofs.Positions.{same_position_true}
use Rattle.units.specs.Layout.{all_orders}
use Rattle.units.specs.Limits.{LimitsOf}
use Rattle.units.specs.declared.level.Direction.{Direction}
use Rattle.bidtests.specs.declared.verdict.Place.{Place}
use Rattle.bidtests.specs.declared.verdict.Place.TheVariants.{ParaLevel, Levels, Order}
use Rattle.bidtests.specs.Verdicts.{Expected, Row, first_difference, first_of, agrees, placed_in, wrong_place_under}
use Rattle.std.specs.Option.{option_or}
use Rattle.bidtests.specs.Headline.{layout_under, IsParaRight, IsCaseRight, IsFirstDifference, IsWrongAt}

pub same-expected : (a b : Expected) → Row a ≡ Row b → a ≡ b
same-expected a b e = cc

-- the lists are equal, or n is their first difference, counted from `at`
abbrev Compared : {A : Type 0} → List A → List A → ℕ → Option ℕ → Type 0
Compared xs ys at None = xs ≡ ys
Compared xs ys at (Some n) = (i : ℕ) × (n ≡ at + i) × IsFirstDifference xs ys i

later_before : {A : Type 0} (x y : A) (xs ys : List A) (i : ℕ) → x ≡ y →
    ((p : ℕ) → p < i → slice_get xs p ≡ slice_get ys p)
    → (p : ℕ) → p < suc i → slice_get (x ∷ xs) p ≡ slice_get (y ∷ ys) p
later_before x y xs ys i e h zero lt = ap (λ z. Some z) e
later_before x y xs ys i e h (suc p) lt = h p (omega arith)

here : {A : Type 0} (xs ys : List A) (at : ℕ) → slice_get xs 0 ≢ slice_get ys 0 → Compared xs ys at (Some at)
here xs ys at ne = (0, omega arith, record { before = λ p lt. absurd (omega arith); there = ne })

one_on : {A : Type 0} (x y : A) (xs ys : List A) (at : ℕ) (o : Option ℕ) → x ≡ y → Compared xs ys (at + 1) o →
    Compared (x ∷ xs) (y ∷ ys) at o
one_on x y xs ys at None e c = cc
one_on x y xs ys at (Some n) e c =
    (suc c.0, omega (arith, c.1), record { before = later_before x y xs ys c.0 e c.2.before; there = c.2.there })

by_heads : {A : Type 0} (x y : A) (xs ys : List A) (at : ℕ) (o : Option ℕ) (same : Bool) → (same ≡ true → x ≡ y) →
    (same ≡ false → x ≢ y)
    → Compared xs ys (at + 1) o → Compared (x ∷ xs) (y ∷ ys) at (if same then o else Some at)
by_heads x y xs ys at o true alike apart c = one_on x y xs ys at o (alike refl) c
by_heads x y xs ys at o false alike apart c = here (x ∷ xs) (y ∷ ys) at (λ e. apart refl (same_Some _ _ e))

compared : {A : Type 0} (same : A → A → Bool) → ((x y : A) → same x y ≡ true → x ≡ y) →
    ((x y : A) → same x y ≡ false → x ≢ y)
    → (xs ys : List A) (at : ℕ) → Compared xs ys at (first_difference same xs ys at)
compared same alike apart [] [] at = refl
compared same alike apart [] (y ∷ ys) at = here [] (y ∷ ys) at (none-some y)
compared same alike apart (x ∷ xs) [] at = here (x ∷ xs) [] at (λ e. none-some x (sym e))
compared same alike apart (x ∷ xs) (y ∷ ys) at =
    by_heads x y xs ys at (first_difference same xs ys (at + 1)) (same x y) (alike x y) (apart x y)
    (compared same alike apart xs ys (at + 1))

difference_unique : {A : Type 0} (xs ys : List A) (i j : ℕ) → IsFirstDifference xs ys i → IsFirstDifference xs ys j →
    i ≡ j
difference_unique xs ys i j d e = grind arith

no_difference : {A : Type 0} (xs ys : List A) (i : ℕ) → xs ≡ ys → IsFirstDifference xs ys i → ⊥
no_difference xs ys i e d = d.there (ap (λ zs. slice_get zs i) e)

other_levels : (x y : Option ℕ) → same_position x y ≡ false → x ≢ y
other_levels None None e = λ _. false≢true (sym e)
other_levels (Some p) (Some q) e = λ s. eqb-false p q e (same_Some _ _ s)
other_levels None (Some q) e = none-some q
other_levels (Some p) None e = λ s. none-some p (sym s)

-- the level of the first paragraph
first_is : (xs : List ℕ) → first_of xs ≡ slice_get xs 0
first_is [] = refl
first_is (x ∷ xs) = refl

-- the case is right, or wrong at this place
abbrev pub CaseIs : LimitsOf → Expected → Direction → Option Place → Type 0
CaseIs limits expected d None = IsCaseRight limits expected d
CaseIs limits expected d (Some place) = IsWrongAt limits expected d place

para_level-is : (para_level first : Option ℕ) →
    MatchBool (agrees para_level first) (IfSome para_level (λ level. first ≡ Some level)) (¬ IfSome para_level (λ level.
    first ≡ Some level))
para_level-is None first = tt
para_level-is (Some level) None = none-some level
para_level-is (Some level) (Some first) = grind (arith, eqb-true, eqb-false, same_Some)

module _ (limits : LimitsOf) (expected : Expected) (d : Direction) where
  from-start : {A : Type 0} (xs ys : List A) (i n : ℕ) → n ≡ 0 + i → IsFirstDifference xs ys i →
      IsFirstDifference xs ys n
  from-start xs ys i n e w = grind arith

  chosen : (right : Bool) (l o : Option ℕ) →
      MatchBool right (IsParaRight limits expected d) (¬ IsParaRight limits expected d)
      → Compared expected.levels (layout_under limits expected d).levels 0 l →
      Compared expected.order (all_orders (layout_under limits expected d)) 0 o
      → CaseIs limits expected d (if right then option_or (placed_in Levels l) (placed_in Order o) else Some ParaLevel)
  chosen false l o p c e = p
  chosen true None None p c e = record { para_level = p; levels = c; order = e }
  chosen true (Some n) o p c e = (p, from-start expected.levels (layout_under limits expected d).levels c.0 n c.1 c.2)
  chosen true None (Some n) p c e =
      (p, c, from-start expected.order (all_orders (layout_under limits expected d)) e.0 n e.1 e.2)

  para_level-right : MatchBool (agrees expected.para_level (first_of (layout_under limits expected d).paras))
      (IsParaRight limits expected d) (¬ IsParaRight limits expected d)
  para_level-right = grind (arith, first_is, para_level-is)

  -- the result of the search
  pub case-is : CaseIs limits expected d (wrong_place_under limits expected d)
  case-is =
      let layout = layout_under limits expected d in
      chosen (agrees expected.para_level (first_of layout.paras))
      (first_difference same_position expected.levels layout.levels 0)
      (first_difference nat_eq expected.order (all_orders layout) 0)
      para_level-right
      (compared same_position same_position_true other_levels expected.levels layout.levels 0)
      (compared nat_eq (λ x y e. eqb-true x y e) (λ x y e. eqb-false x y e) expected.order (all_orders layout) 0)

  -- no case is both right and wrong
  pub right-wrong : (place : Place) → IsCaseRight limits expected d → IsWrongAt limits expected d place → ⊥
  right-wrong ParaLevel r w = w r.para_level
  right-wrong (Levels i) r w = no_difference expected.levels (layout_under limits expected d).levels i r.levels w.1
  right-wrong (Order i) r w = no_difference expected.order (all_orders (layout_under limits expected d)) i r.order w.2

  -- only one place is the first wrong one
  pub place-unique : (p q : Place) → IsWrongAt limits expected d p → IsWrongAt limits expected d q → p ≡ q
  place-unique ParaLevel ParaLevel w v = refl
  place-unique ParaLevel (Levels j) w v = absurd (w v.0)
  place-unique ParaLevel (Order j) w v = absurd (w v.0)
  place-unique (Levels i) ParaLevel w v = absurd (v w.0)
  place-unique (Levels i) (Levels j) w v =
      ap (λ n. Levels n) (difference_unique expected.levels (layout_under limits expected d).levels i j w.1 v.1)
  place-unique (Levels i) (Order j) w v =
      absurd (no_difference expected.levels (layout_under limits expected d).levels i v.1 w.1)
  place-unique (Order i) ParaLevel w v = absurd (v w.0)
  place-unique (Order i) (Levels j) w v =
      absurd (no_difference expected.levels (layout_under limits expected d).levels j w.1 v.1)
  place-unique (Order i) (Order j) w v =
      ap (λ n. Order n) (difference_unique expected.order (all_orders (layout_under limits expected d)) i j w.2 v.2)
