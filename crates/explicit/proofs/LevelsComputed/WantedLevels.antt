-- The next odd and the next even level are the least ones above a level.
use Rattle.std.proofs.Common.{ℕ, true, false, List, arith, inl, inr}
use Rattle.std.proofs.lemmas.Bool.{cases_Bool}
use Rattle.units.specs.Classes.{class_at}
use Rattle.units.specs.Explicit.{next_odd, next_even, wanted_level, wants_odd}
use Rattle.units.specs.declared.class.Class.{Class}
use Rattle.explicit.specs.WantedLevels.{IsLeastAbove}

pub odd_least : (level : ℕ) → IsLeastAbove level true (next_odd level)
odd_least level = record { above = omega arith; parity = omega arith; least = λ other up odd. omega arith }

pub even_least : (level : ℕ) → IsLeastAbove level false (next_even level)
even_least level = record { above = omega arith; parity = omega arith; least = λ other up even. omega arith }

pub wanted_least : (cs : List Class) (level q : ℕ) →
    IsLeastAbove level (wants_odd cs q (class_at cs q)) (wanted_level cs level q)
wanted_least cs level q =
    elim (cases_Bool (wants_odd cs q (class_at cs q))) [
      | inl odd ↦ rw odd (odd_least level)
      | inr even ↦
          rw even (even_least level)
    ]
