-- What is printed of a text as its bytes are read.
use Rattle.std.specs.Prelude.{◌≡◌, Option, ℕ, List, ◌++◌, take}
use Rattle.std.specs.Io.KnownBytes.{Appends}
use Rattle.std.specs.Str.{IsUtf8, chars}
use Rattle.std.specs.Str.Lossy.{utf8_valid_len}
use Rattle.units.specs.declared.level.Direction.{Direction}
use Rattle.ucdfiles.specs.Tables.{TablesOf}
use Rattle.printing.specs.Following.{printed_as}
use Rattle.printing.specs.EndedParagraphs.{ended_paragraphs}
use Rattle.printing.specs.ReadBytes.{IsReadTo}
use Rattle.printing.specs.TextPlaces.{place_after}
use Rattle.printing.specs.declared.fault.PrintStop.{PrintStop}
use Rattle.printing.specs.declared.fault.PrintStop.TheVariants as stop
use Rattle.printing.specs.declared.form.Form.{Form}
use Rattle.printing.specs.declared.place.TextPlace.{TextPlace}
use Rattle.printing.specs.declared.reading.TextFault.{TextFault}
use Rattle.printing.specs.declared.reading.TextFault.TheVariants.{Read, NotUtf8, Write, NobodyReads, Memory}
use Rattle.printing.specs.declared.written.Written.{Written}
use Rattle.printing.specs.declared.written.Written.TheVariants.{Whole, CutOff}

-- the longest front of these bytes that is UTF-8
abbrev pub utf8_front : List ℕ → List ℕ
utf8_front bytes = take (utf8_valid_len bytes) bytes

-- what is printed in this form of the paragraphs that have ended in the longest front of the bytes that is UTF-8
abbrev pub printed_ended : Form → TablesOf → List ℕ → Direction → List ℕ
printed_ended form tables bytes direction =
    printed_as form tables (ended_paragraphs tables (chars (utf8_front bytes))) direction

-- the bytes are UTF-8, and known bytes grew by what is printed of their text in this form
pub record IsPrinted (form : Form) (tables : TablesOf) (direction : Direction) (bytes : List ℕ)
    (before after : Option (List ℕ)) : Type 0 where
  pub utf8 : IsUtf8 bytes
  pub noted : Appends before after (printed_as form tables (chars bytes) direction)

-- known bytes grew by this text if it was written completely; if a write failed, nothing is known
abbrev pub IsWritten : Written → Option (List ℕ) → Option (List ℕ) → List ℕ → Type 0
IsWritten Whole before after text = Appends before after text
IsWritten CutOff before after text = Unit {0}

-- the bytes are not UTF-8, and this is the place after their longest front that is UTF-8
pub record IsNotUtf8 (bytes : List ℕ) (place : TextPlace) : Type 0 where
  pub broken : ¬ (IsUtf8 bytes)
  pub place_is : place ≡ place_after (utf8_front bytes)

-- a source gave bytes; the last of them are in a buffer and their characters were not taken yet, and this is the place
-- after the text before them
pub record IsReadUpTo {S : Type 0} (gives : S → List ℕ → S →
    Type 0) (start now : S) (place : TextPlace) (buffer : List ℕ) : Type 0 where
  pub bytes : List ℕ
  pub front : List ℕ
  pub stored : List ℕ
  pub more : List ℕ
  pub cut : IsReadTo bytes front stored
  pub buffer_is : buffer ≡ stored ++ more
  pub given : gives start (bytes ++ more) now
  pub place_is : place ≡ place_after front

-- the printing of a text stops after these bytes for this reason:
-- Read: the source failed, and the paragraphs that have ended are printed unless a write failed;
-- NotUtf8: the bytes are all and are not UTF-8, and the paragraphs that have ended are printed unless a write failed;
-- Write: the bytes are all and are UTF-8, and a write failed;
-- NobodyReads or Memory: nobody reads the output, or memory was refused
abbrev pub BreaksOff : Type 0 → Type 0 → Form → TablesOf → Direction → List ℕ → Option (List ℕ) → Option (List ℕ) →
    TextFault → Type 0
BreaksOff Failed Ended form tables direction bytes before after (Read written) =
    Failed × IsWritten written before after (printed_ended form tables bytes direction)
BreaksOff Failed Ended form tables direction bytes before after (NotUtf8 place written) =
    Ended × IsNotUtf8 bytes place × IsWritten written before after (printed_ended form tables bytes direction)
BreaksOff Failed Ended form tables direction bytes before after Write = Ended × IsUtf8 bytes
BreaksOff Failed Ended form tables direction bytes before after NobodyReads = Unit {0}
BreaksOff Failed Ended form tables direction bytes before after Memory = Unit {0}

-- the same if a write failed before and the source was read to its end
abbrev pub EndsUnwritten : Type 0 → Type 0 → List ℕ → TextFault → Type 0
EndsUnwritten Failed Ended bytes (Read CutOff) = Failed
EndsUnwritten Failed Ended bytes (NotUtf8 place CutOff) = Ended × IsNotUtf8 bytes place
EndsUnwritten Failed Ended bytes Write = Ended × IsUtf8 bytes
EndsUnwritten Failed Ended bytes _ = ⊥

-- the fault of a text that was read to its end if printing stopped for this reason
abbrev pub stopped_by : PrintStop → TextFault
stopped_by stop.NobodyReads = NobodyReads
stopped_by stop.Write = Write
stopped_by stop.Memory = Memory
