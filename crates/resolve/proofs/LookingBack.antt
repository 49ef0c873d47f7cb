-- How far back the search for the nearest strong class before an index goes.
use Rattle.std.specs.Prelude.{Option, Some, None, Bool, true, ℕ, ◌-◌, ◌<◌, ◌≤◌, ◌≡◌, List, refl}
use Rattle.std.specs.Option.{is_some}
use Rattle.std.proofs.Common.{arith, sym, ◌∙◌, inl, inr}
use Rattle.std.proofs.lemmas.Bool.{cases_lt, false≢true}
use Rattle.units.specs.Brackets.{strong_as}
use Rattle.units.specs.Classes.{class_at}
use Rattle.units.specs.Positions.{last_below}
use Rattle.units.specs.declared.class.Class.{Class}
use Rattle.units.proofs.Positions.{last_below_none, last_below_some}
use Rattle.resolve.specs.Inside.{later_of, looked_back}

later_of-from : (from : ℕ) (found : Option ℕ) → from ≤ later_of from found
later_of-from from None = omega arith
later_of-from from (Some j) = omega arith

later_of-passes : (test : ℕ → Bool) (from index k : ℕ) (found : Option ℕ) → last_below test index ≡ found → k < index →
    test k ≡ true → k ≤ later_of from found
later_of-passes test from index k None e below is =
    absurd (false≢true (sym (last_below_none test index e k below) ∙ is))
later_of-passes test from index k (Some j) e below is =
    let last = last_below_some test index j e in
    elim (cases_lt j k) [
      | inl after ↦ absurd (false≢true (sym (last.fails_after k after below) ∙ is))
      | inr before ↦ omega arith
    ]

-- no further than to the earlier index
pub looked_back-all : (cs : List Class) (from index : ℕ) → looked_back cs from index ≤ index - from
looked_back-all cs from index =
    omega (arith, later_of-from from (last_below (λ j. is_some (strong_as (class_at cs j))) index))

-- no further than to a strong class
pub looked_back-found : (cs : List Class) (from index k : ℕ) → k < index → is_some (strong_as (class_at cs k)) ≡ true →
    looked_back cs from index ≤ index - k
looked_back-found cs from index k below is =
    let test : ℕ → Bool = λ j. is_some (strong_as (class_at cs j)) in
    omega (arith, later_of-passes test from index k (last_below test index) refl below is)
