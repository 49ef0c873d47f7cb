-- Files with the same findings, up to the first line that is malformed for a certain cause.
use Rattle.std.proofs.Common.{arith, ◌≡◌, ℕ, ◌+◌, Option, None, Some, List, [], ◌∷◌, inl, inr, refl, sym, ◌∙◌}
use Rattle.std.specs.Prelude.{◌⊎◌, ⊤}
use Rattle.units.specs.Limits.{LimitsOf}
use Rattle.bidtests.specs.declared.verdict.Cause.{Cause}
use Rattle.bidtests.specs.declared.verdict.Verdict.{Verdict}
use Rattle.bidtests.specs.declared.verdict.Verdict.TheVariants.{Malformed}
use Rattle.bidtests.specs.Verdicts.{Finding, Faulty, no_of, first_no, verdict_on}
use Rattle.std.specs.Option.{option_or}
use Rattle.units.specs.Lines.{line_number}

-- the findings are the same, up to the first that is malformed for this cause
abbrev pub AreSameUpTo : Cause → List Finding → List Finding → Type 0
AreSameUpTo cause [] [] = ⊤
AreSameUpTo cause [] (g ∷ gs) = ⊥
AreSameUpTo cause (f ∷ fs) [] = ⊥
AreSameUpTo cause (f ∷ fs) (g ∷ gs) = (f ≡ Faulty cause) ⊎ ((f ≡ g) × AreSameUpTo cause fs gs)

option_or-none : (a b : Option Verdict) → option_or a b ≡ None → b ≡ None
option_or-none None b e = e
option_or-none (Some v) b e = absurd cc

option_or-alike : (a b c : Option Verdict) (v : Verdict) → option_or a b ≡ Some v → (b ≡ Some v → c ≡ Some v) →
    option_or a c ≡ Some v
option_or-alike None b c v e alike = alike e
option_or-alike (Some u) b c v e alike = e

broken-has-fault : (limits : LimitsOf) (k : ℕ) (f : Finding) (cause : Cause) (rest : Option Verdict) →
    f ≡ Faulty cause → option_or (no_of limits (line_number k) f) rest ≡ Some (Malformed (line_number k) cause)
broken-has-fault limits k f cause rest broken = rw broken refl

faultless-same : (limits : LimitsOf) (cause : Cause) (k : ℕ) (fs gs : List Finding) → AreSameUpTo cause fs gs →
    first_no limits k fs ≡ None → gs ≡ fs
faultless-same limits cause k [] [] same none = refl
faultless-same limits cause k [] (g ∷ gs) same none = absurd same
faultless-same limits cause k (f ∷ fs) [] same none = absurd same
faultless-same limits cause k (f ∷ fs) (g ∷ gs) (inl broken) none =
    let e : Some (Malformed (line_number k) cause) ≡ None =
    sym (broken-has-fault limits k f cause (first_no limits (k + 1) fs) broken) ∙ none in absurd cc
faultless-same limits cause k (f ∷ fs) (g ∷ gs) (inr same) none =
    grind (
      arith,
      option_or-none,
      faultless-same limits cause (k + 1) fs gs same.1 (option_or-none (no_of limits (line_number k) f)
          (first_no limits (k + 1) fs) none),
    )

fault-same : (limits : LimitsOf) (cause : Cause) (k : ℕ) (fs gs : List Finding) (v : Verdict) →
    AreSameUpTo cause fs gs → first_no limits k fs ≡ Some v → ((line : ℕ) → v ≡ Malformed line cause → ⊥) →
    first_no limits k gs ≡ Some v
fault-same limits cause k [] [] v same e other = absurd cc
fault-same limits cause k [] (g ∷ gs) v same e other = absurd same
fault-same limits cause k (f ∷ fs) [] v same e other = absurd same
fault-same limits cause k (f ∷ fs) (g ∷ gs) v (inl broken) e other = grind (arith, broken-has-fault)
fault-same limits cause k (f ∷ fs) (g ∷ gs) v (inr same) e other =
    rw (← same.0) (option_or-alike (no_of limits (line_number k) f) (first_no limits (k + 1) fs)
    (first_no limits (k + 1) gs) v e (λ h. fault-same limits cause (k + 1) fs gs v same.1 h other))

-- the verdicts are the same, unless the first one is that a line is malformed for this cause
pub verdict-same : (limits : LimitsOf) (cause : Cause) (fs gs : List Finding) → AreSameUpTo cause fs gs →
    ((line : ℕ) → verdict_on limits fs ≡ Malformed line cause → ⊥) → verdict_on limits gs ≡ verdict_on limits fs
unfolding verdict_on
verdict-same limits cause fs gs same other = grind (arith, faultless-same, fault-same)
