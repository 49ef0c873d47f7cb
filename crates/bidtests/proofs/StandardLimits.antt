-- The verdict with layouts that are those of the standard.
use Rattle.std.proofs.Common.{arith, ◌≡◌, ℕ, ◌+◌, List, [], ◌∷◌, refl, ap}
use Rattle.units.specs.Layout.{layout_of}
use Rattle.units.specs.Limits.{standard}
use Rattle.units.specs.StandardLimits.{standard_layout}
use Rattle.units.specs.declared.bracket.Unit.{Unit as BidiUnit}
use Rattle.units.specs.declared.level.Direction.{Direction}
use Rattle.bidtests.specs.declared.kind.Kind.{Kind}
use Rattle.bidtests.specs.Verdicts.{Expected, Finding, Silent, Row, Faulty, wrong_case, wrong_at, no_of, first_no, verdict_on}
use Rattle.bidtests.specs.FileKinds.{verdict_of}
use Rattle.bidtests.specs.StandardVerdicts.{standard_wrong_case, standard_no_of, standard_first_no, standard_verdict_of}
use Rattle.bidtests.proofs.SplitterSteps.{verdict-of}

module _ (same : (text : List BidiUnit) (direction : Direction) (breaks : List ℕ) →
    layout_of standard text direction breaks ≡ standard_layout text direction breaks) where
  standard-case : (expected : Expected) (ds : List Direction) →
      wrong_case standard expected ds ≡ standard_wrong_case expected ds
  standard-case expected [] = refl
  standard-case expected (d ∷ ds) = rw (same expected.text d [], standard-case expected ds) refl

  standard-fault : (number : ℕ) (f : Finding) → no_of standard number f ≡ standard_no_of number f
  standard-fault number Silent = refl
  standard-fault number (Faulty cause) = refl
  standard-fault number (Row expected) = ap (wrong_at number) (standard-case expected expected.directions)

  standard-first : (k : ℕ) (fs : List Finding) → first_no standard k fs ≡ standard_first_no k fs
  standard-first k [] = refl
  standard-first k (f ∷ fs) = rw (standard-fault _ f, standard-first (k + 1) fs) refl

  pub standard-verdict : (kind : Kind) (bytes : List ℕ) →
      verdict_of standard kind bytes ≡ standard_verdict_of kind bytes
  unfolding verdict_on
  standard-verdict kind bytes = grind (arith, verdict-of, standard-first)
