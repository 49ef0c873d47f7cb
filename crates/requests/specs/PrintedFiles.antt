-- The output for a text that is printed while its file is read.
use Rattle.std.specs.Prelude.{◌≡◌, ◌⊎◌, ℕ, List, Option}
use Rattle.units.specs.declared.level.Direction.{Direction}
use Rattle.ucdfiles.specs.Tables.{TablesOf}
use Rattle.printing.specs.ReadTexts.{IsNotUtf8, IsWritten, printed_ended}
use Rattle.printing.specs.declared.form.Form.{Form}
use Rattle.printing.specs.declared.written.Written.{Written}
use Rattle.requests.specs.ReadFiles.{FileFacts, named_file, origin_of, word_file}
use Rattle.requests.specs.Parts.{AreDone, FailsOver, printing_parts, whole_parts}
use Rattle.requests.specs.Printed.{most_text_bytes}
use Rattle.requests.specs.TableSources.{AreTablesBy}
use Rattle.requests.specs.declared.fault.Fault.{Fault}
use Rattle.requests.specs.declared.fault.Fault.TheVariants.{CannotRead, NotUtf8, NobodyReads, OutOfMemory}
use Rattle.requests.specs.declared.request.TableSource.{TableSource}

-- a text was read up to these bytes, with this result of the read; unless a write failed, the known output grew by what
-- is printed of the paragraphs that have ended in them, as far as they are UTF-8, with the tables of this source
pub record HasPrintedEnded (files : FileFacts) (form : Form) (direction : Direction) (source : TableSource)
    (Read : List ℕ → Type 0) (written : Written) (before after : Option (List ℕ)) : Type 0 where
  pub tables : TablesOf
  pub stated : AreTablesBy files source tables
  pub bytes : List ℕ
  pub read : Read bytes
  pub noted : IsWritten written before after (printed_ended form tables bytes direction)

-- when a fault breaks off the printing of the text of FILE: a read fails after these bytes, for the reason in the
-- fault; or they are all bytes, and are not UTF-8 after this place; or, after FILE was opened, nobody reads the output
-- any more, or an allocation failed
abbrev pub TextBreaksOff : FileFacts → Form → Direction → TableSource → List ℕ → Option (List ℕ) → Option (List ℕ) →
    Fault → Type 0
TextBreaksOff files form direction source file before after (CannotRead name folder most unread written) =
    (named_file name folder most ≡ word_file most_text_bytes file)
    × HasPrintedEnded files form direction source (λ bytes.
    files.Fails (origin_of file) most_text_bytes bytes unread) written before after
TextBreaksOff files form direction source file before after (NotUtf8 named place written) = (named.now ≡ file)
    × HasPrintedEnded files form direction source (λ bytes. files.Holds (origin_of file) most_text_bytes bytes ×
    IsNotUtf8 bytes place) written before after
TextBreaksOff files form direction source file before after NobodyReads = AreDone (printing_parts files source file)
TextBreaksOff files form direction source file before after OutOfMemory = AreDone (printing_parts files source file)
TextBreaksOff files form direction source file before after _ = ⊥

-- the printing of a text fails: in a part before its first byte, or by a write after all of the text was read, or it
-- breaks off
abbrev pub FailsToPrint : FileFacts → Form → Direction → TableSource → List ℕ → Option (List ℕ) → Option (List ℕ) →
    Fault → Type 0
FailsToPrint files form direction source file before after fault =
    FailsOver (printing_parts files source file) (whole_parts files source file) before after fault
    ⊎ TextBreaksOff files form direction source file before after fault
