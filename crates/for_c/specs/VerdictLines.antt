-- The line that states a verdict.
use Rattle.std.specs.Prelude.{ℕ, ◌≡◌, ◌≢◌, ◌<◌, ◌≤◌, ◌^◌, ◌⊎◌, ◌++◌, List, Err, IfErr, OnErr, OnOk, length, drop}
use Rattle.bidtests.specs.VerdictText.{verdict_text}
use Rattle.bidtests.specs.declared.verdict.Place.{Place}
use Rattle.bidtests.specs.declared.verdict.Verdict.{Verdict}
use Rattle.bidtests.specs.declared.verdict.Verdict.TheVariants.{Yes, Malformed, Wrong}
use Rattle.for_c.specs.VerdictNumbers.{verdict_for_c, index_in}
use Rattle.for_c.specs.Statuses.{Outcome}
use Rattle.for_c.specs.declared.call_error.CallError.{CallError}
use Rattle.for_c.specs.declared.call_error.CallError.TheVariants.{Memory, NoVerdict, TooSmall}
use Rattle.for_c.specs.declared.verdict.BidiVerdict.{BidiVerdict}

-- the numbers encode a verdict, and this is the line that states it
pub record IsVerdictLine (numbers : BidiVerdict) (line : List ℕ) : Type 0 where
  pub verdict : Verdict
  pub encoded : numbers ≡ verdict_for_c verdict
  pub text : line ≡ verdict_text verdict

-- the index of a place, if it has one, has 64 bits
abbrev pub HasSmallIndex : Place → Type 0
HasSmallIndex place = index_in place < 2 ^ 64

-- the numbers of a verdict have 64 bits
abbrev pub HasSmallNumbers : Verdict → Type 0
HasSmallNumbers (Yes rows cases) = (rows < 2 ^ 64) × (cases < 2 ^ 64)
HasSmallNumbers (Malformed line cause) = line < 2 ^ 64
HasSmallNumbers (Wrong line direction place) = (line < 2 ^ 64) × HasSmallIndex place

-- the numbers encode a verdict
abbrev pub EncodeVerdict : BidiVerdict → Type 0
EncodeVerdict numbers = (verdict : Verdict) × (numbers ≡ verdict_for_c verdict)

-- the numbers encode no verdict
abbrev pub EncodeNoVerdict : BidiVerdict → Type 0
EncodeNoVerdict numbers = (verdict : Verdict) → numbers ≢ verdict_for_c verdict

-- no line is made of these numbers, for this reason: they encode a verdict, and there is not enough memory, or they
-- encode none
abbrev pub RejectsVerdictNumbers : BidiVerdict → CallError → Type 0
RejectsVerdictNumbers numbers error =
    ((error ≡ Memory) × EncodeVerdict numbers) ⊎ ((error ≡ NoVerdict) × EncodeNoVerdict numbers)

-- the numbers encode a verdict whose line has more bytes than this
abbrev pub IsLongerThan : BidiVerdict → ℕ → Type 0
IsLongerThan numbers most = (line : List ℕ) × IsVerdictLine numbers line × (most < length line)

-- the line of these numbers is not written to an output of so many bytes, for this reason
abbrev pub RejectsVerdictText : BidiVerdict → ℕ → CallError → Type 0
RejectsVerdictText numbers most error =
    RejectsVerdictNumbers numbers error ⊎ ((error ≡ TooSmall) × IsLongerThan numbers most)

-- a call that writes the line of these numbers: if it succeeds, the line is at the front of the output; else the output
-- is unchanged, for a reason. If the numbers encode a verdict and memory suffices, the length that is written is that
-- of the line, 72 at most; else it is unchanged
pub record WritesVerdictLine (numbers : BidiVerdict) (old new : List ℕ) (before after : ℕ) (outcome : Outcome) :
    Type 0 where
  pub fits : OnOk outcome ((line : List ℕ) × IsVerdictLine numbers line × (length line ≤ length old))
  pub written : OnOk outcome ((line : List ℕ) → IsVerdictLine numbers line → new ≡ line ++ drop (length line) old)
  pub unchanged : OnErr outcome (new ≡ old)
  pub reason : IfErr outcome (RejectsVerdictText numbers (length old))
  pub counted : (line : List ℕ) → IsVerdictLine numbers line → outcome ≢ Err Memory → after ≡ length line
  pub short : IfErr outcome (λ error. error ≡ TooSmall) → after ≤ 72
  pub uncounted : IfErr outcome (λ error. error ≢ TooSmall → after ≡ before)
