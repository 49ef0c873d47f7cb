-- The numbers that a call returns to C.
use Rattle.std.specs.Prelude.{ℕ, ◌≡◌, Result, Ok, Err, IfErr, OnErr, OnOk}
use Rattle.std.specs.Option.{unwrap_or}
use Rattle.ucdfiles.specs.Faults.{line_of_fault}
use Rattle.for_c.specs.declared.call_error.CallError.{CallError}
use Rattle.for_c.specs.declared.call_error.CallError.TheVariants.{Memory, TooBig, TooLong, NoCharacter, NoClass, BreakOutOfRange, BreakNotRising, NoDirection, NoRoom, NoTables, NoLine, NoPlace, NoJudge, Depth, Brackets, ClassFile, BracketFile, MirrorFile, NoVerdict, TooSmall, LineNotForward, LineBeyondText, LineCrossesParagraph, IllFormed, BreakInside, NoReport, NoCase, CasesLeft, NoLevel}

-- the status of a call that fails with this error; a call that succeeds returns 0
abbrev pub code_of : CallError → ℕ
code_of Memory = 1
code_of TooBig = 2
code_of TooLong = 3
code_of (NoCharacter index) = 4
code_of (NoClass index) = 5
code_of (BreakOutOfRange index) = 6
code_of (BreakNotRising index) = 7
code_of NoDirection = 8
code_of NoRoom = 9
code_of NoTables = 10
code_of NoLine = 11
code_of (ClassFile fault) = 12
code_of (BracketFile fault) = 13
code_of (MirrorFile fault) = 14
code_of NoPlace = 15
code_of NoJudge = 16
code_of Depth = 17
code_of Brackets = 18
code_of NoVerdict = 19
code_of TooSmall = 20
code_of LineNotForward = 21
code_of LineBeyondText = 22
code_of LineCrossesParagraph = 23
code_of (IllFormed offset) = 24
code_of (BreakInside index) = 25
code_of NoReport = 26
code_of NoCase = 27
code_of CasesLeft = 28
code_of (NoLevel index) = 29

-- the index or offset that it names, or the line, from 1; 0 if it names none
abbrev pub place_of : CallError → ℕ
place_of (NoCharacter index) = index
place_of (NoClass index) = index
place_of (BreakOutOfRange index) = index
place_of (BreakNotRising index) = index
place_of (IllFormed offset) = offset
place_of (BreakInside index) = index
place_of (NoLevel index) = index
place_of (ClassFile fault) = unwrap_or (line_of_fault fault) 0
place_of (BracketFile fault) = unwrap_or (line_of_fault fault) 0
place_of (MirrorFile fault) = unwrap_or (line_of_fault fault) 0
place_of _ = 0

-- a call succeeds, or fails for a reason
abbrev pub Outcome : Type 0
Outcome = Result (Unit {0}) CallError

-- the status of a call with this outcome
abbrev pub status_of : Outcome → ℕ
status_of (Ok done) = 0
status_of (Err error) = code_of error

-- the place that its error names; without an error the place is unchanged
abbrev pub place_named : Outcome → ℕ → ℕ
place_named (Ok done) before = before
place_named (Err error) before = place_of error

-- a call returns the status of an outcome for which `IsSo` holds
pub record ReturnsStatus (IsSo : Outcome → Type 0) (status : ℕ) : Type 0 where
  pub outcome : Outcome
  pub coded : status ≡ status_of outcome
  pub so : IsSo outcome

-- a call returns the status of an outcome for which `IsSo` holds, and the value that it names follows from the outcome
pub record ReturnsStatusNaming {A : Type 0} (named : Outcome → A → A) (IsSo : Outcome →
    Type 0) (status : ℕ) (before after : A) : Type 0 where
  pub outcome : Outcome
  pub coded : status ≡ status_of outcome
  pub place : after ≡ named outcome before
  pub so : IsSo outcome

-- a call puts a right value into a place, or fails for a reason, and the place is unchanged
pub record Puts {A : Type 0} (IsRight : A → Type 0) (IsReason : CallError →
    Type 0) (old new : A) (outcome : Outcome) : Type 0 where
  pub right : OnOk outcome (IsRight new)
  pub unchanged : OnErr outcome (new ≡ old)
  pub reason : IfErr outcome IsReason
