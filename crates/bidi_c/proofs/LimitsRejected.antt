-- A call with limits that are not allowed fails for this reason, and changes nothing.
use Rattle.std.specs.Prelude.{ℕ, ◌≡◌, Err}
use Rattle.units.specs.Limits.{AreAllowed, LimitsOf}
use Rattle.for_c.specs.LimitsGiven.{ByLimits, RejectsLimits, limits_in}
use Rattle.for_c.specs.Statuses.{ReturnsStatus, ReturnsStatusNaming, Outcome, place_named, status_of}
use Rattle.for_c.specs.declared.call_error.CallError.{CallError}
use Rattle.for_c.specs.declared.limits.BidiLimits.{BidiLimits}

module _ {A : Type 0} {given : BidiLimits} {IsSo : LimitsOf → A → A → Outcome →
    Type 0} {old new : A} (error : CallError) where
  pub forbidden_by : RejectsLimits given error → (AreAllowed (limits_in given) → ⊥) → new ≡ old →
      ByLimits given IsSo old new (Err error)
  forbidden_by rejected forbidden same =
      record { forbidden = λ _. rejected; unchanged = λ _. same; allowed = λ allowed. absurd (forbidden allowed) }

  pub limits_rejected : {number : ℕ} → RejectsLimits given error → (AreAllowed (limits_in given) → ⊥) → new ≡ old
      → number ≡ status_of (Err error) → ReturnsStatus (ByLimits given IsSo old new) number
  limits_rejected rejected forbidden same coded =
      record { outcome = Err error; coded = coded; so = forbidden_by rejected forbidden same }

  pub limits_rejected_named : {number before after : ℕ} → RejectsLimits given error →
      (AreAllowed (limits_in given) → ⊥) → new ≡ old
      → number ≡ status_of (Err error) → after ≡ place_named (Err error) before →
      ReturnsStatusNaming place_named (ByLimits given IsSo old new) number before after
  limits_rejected_named rejected forbidden same coded placed =
      record { outcome = Err error; coded = coded; place = placed; so = forbidden_by rejected forbidden same }
