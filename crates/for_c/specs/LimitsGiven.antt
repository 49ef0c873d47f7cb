-- The limits that C passes.
use Rattle.std.specs.Prelude.{◌≡◌, ◌<◌, ◌≤◌, ◌⊎◌, IsErrAnd}
use Rattle.units.specs.Limits.{LimitsOf, AreAllowed}
use Rattle.for_c.specs.Statuses.{Outcome}
use Rattle.for_c.specs.declared.call_error.CallError.{CallError}
use Rattle.for_c.specs.declared.call_error.CallError.TheVariants.{Depth, Brackets}
use Rattle.for_c.specs.declared.limits.BidiLimits.{BidiLimits}

-- BD2, BD16: the limits that are passed
abbrev pub limits_in : BidiLimits → LimitsOf
limits_in limits = record { depth = limits.depth; brackets = limits.brackets }

-- the limits are rejected for this reason: the depth is not in 1 to 125, or it is, and the brackets are more than 63
abbrev pub RejectsLimits : BidiLimits → CallError → Type 0
RejectsLimits limits Depth = (limits.depth ≡ 0) ⊎ (125 < limits.depth)
RejectsLimits limits Brackets = (1 ≤ limits.depth) × (limits.depth ≤ 125) × (63 < limits.brackets)
RejectsLimits limits _ = ⊥

-- a call with limits tests them first: if they are not allowed it fails for that and changes nothing, else it does what
-- `IsSo` states of these limits
pub record ByLimits {A : Type 0} (given : BidiLimits) (IsSo : LimitsOf → A → A → Outcome →
    Type 0) (old new : A) (outcome : Outcome) : Type 0 where
  pub forbidden : (AreAllowed (limits_in given) → ⊥) → IsErrAnd outcome (RejectsLimits given)
  pub unchanged : (AreAllowed (limits_in given) → ⊥) → new ≡ old
  pub allowed : AreAllowed (limits_in given) → IsSo (limits_in given) old new outcome
