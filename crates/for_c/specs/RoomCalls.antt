-- Calls on a room, with the errors that C gets.
use Rattle.std.specs.Prelude.{ℕ, ◌≡◌, ◌<◌, ◌≤◌, ◌-◌, ◌⊎◌, Result, Ok, Err, IfErr, OnErr, OnOk, Option, List, drop, length, map, min, take}
use Rattle.units.specs.Layout.{longest_text}
use Rattle.ucdfiles.specs.Tables.{TablesOf}
use Rattle.sources.specs.Asks.{AskOf}
use Rattle.room.specs.Leaving.{Leaves, SetsLines as RoomSetsLines}
use Rattle.room.specs.LineOf.{RejectsLineIn, WritesLineOf}
use Rattle.room.specs.Rooms.{RoomOf}
use Rattle.room.specs.declared.line_of.LineFault.{LineFault}
use Rattle.for_c.specs.LevelBytes.{level_byte}
use Rattle.for_c.specs.Reasons.{error_of_layout, error_of_line, error_of_text}
use Rattle.for_c.specs.Statuses.{Outcome}
use Rattle.for_c.specs.declared.call_error.CallError.{CallError}
use Rattle.for_c.specs.declared.call_error.CallError.TheVariants.{Memory, TooBig}

-- the outcome for C of a call with this result
abbrev pub outcome_of : {F : Type 0} → (F → CallError) → Result (Unit {0}) F → Outcome
outcome_of error (Ok done) = Ok done
outcome_of error (Err fault) = Err (error fault)

-- the outcome for C is that of a result for which `IsSo` holds
pub record Reports {F : Type 0} (error : F → CallError) (IsSo : Result (Unit {0}) F →
    Type 0) (outcome : Outcome) : Type 0 where
  pub done : Result (Unit {0}) F
  pub so : IsSo done
  pub reported : outcome ≡ outcome_of error done

-- no room for n units is made for this reason
abbrev pub RejectsCapacity : ℕ → CallError → Type 0
RejectsCapacity n error = ((error ≡ TooBig) × (longest_text < n)) ⊎ ((error ≡ Memory) × (n ≤ longest_text))

-- P1 to L2: a room before and after a call that lays out a text as it is asked for
abbrev pub LaysOut : AskOf → TablesOf → RoomOf → RoomOf → Outcome → Type 0
LaysOut ask tables old new outcome = Reports (error_of_text ask.source) (Leaves ask tables old new) outcome

-- L1, L2: of a call that breaks the text of the room into lines again
abbrev pub SetsLines : List ℕ → RoomOf → RoomOf → Outcome → Type 0
SetsLines breaks old new outcome = Reports error_of_layout (RoomSetsLines breaks old new) outcome

-- L1, L2: one line of the text is written so, with its levels as bytes
pub record WritesLineBytes (room : RoomOf) (start end : ℕ) (levels levels2 order order2 : List ℕ)
    (shown : ℕ) : Type 0 where
  pub column : List (Option ℕ)
  pub column2 : List (Option ℕ)
  pub line : WritesLineOf room start end column column2 order order2 shown
  pub bytes : take (end - start) levels2 ≡ map level_byte (take (end - start) column2)
  pub following : drop (end - start) levels2 ≡ drop (end - start) levels

-- no line of the text is written to so many places, for this reason
abbrev pub RejectsLineOf : RoomOf → ℕ → ℕ → ℕ → CallError → Type 0
RejectsLineOf room start end places error =
    (fault : LineFault) × (error ≡ error_of_line fault) × RejectsLineIn room start end places fault

-- a call that lays out one line alone writes it, if each list has an item for each unit, or fails for a reason; then
-- nothing is written
pub record PutsLineOf (room : RoomOf) (start end : ℕ) (levels levels2 order order2 : List ℕ) (shown shown2 : ℕ)
    (outcome : Outcome) : Type 0 where
  pub fits : OnOk outcome (end - start ≤ min (length levels) (length order))
  pub line : OnOk outcome (WritesLineBytes room start end levels levels2 order order2 shown2)
  pub unchanged_levels : OnErr outcome (levels2 ≡ levels)
  pub unchanged_order : OnErr outcome (order2 ≡ order)
  pub unchanged_shown : OnErr outcome (shown2 ≡ shown)
  pub reason : IfErr outcome (RejectsLineOf room start end (min (length levels) (length order)))
