-- The row of a test file at a line number.
use Rattle.std.specs.Prelude.{Option, Some, None, Result, Ok, Err, ◌≡◌, ◌<◌, ℕ, ◌+◌, ◌-◌, List, [], ◌++◌, length, take, slice_index_or}
use Rattle.std.specs.List.{slice_get}
use Rattle.units.specs.Text.{lines_of, decided_lines, content_of, fields_of, items_of, each_read}
use Rattle.ucdfiles.specs.PairFiles.{char_of}
use Rattle.bidtests.specs.declared.kind.Kind.{Kind}
use Rattle.bidtests.specs.declared.kind.Kind.TheVariants.{Classes, Characters}
use Rattle.bidtests.specs.declared.verdict.Cause.{Cause}
use Rattle.bidtests.specs.FileKinds.{findings_by}
use Rattle.bidtests.specs.Verdicts.{Expected, Finding, Row}
use Rattle.report.specs.FileReports.{first_malformed}
use Rattle.explain.specs.declared.row_fault.RowFault.{RowFault}
use Rattle.explain.specs.declared.row_fault.RowFault.TheVariants.{Malformed, NoRow}
use Rattle.explain.specs.declared.row_fault.SearchFault.{SearchFault}
use Rattle.explain.specs.declared.row_fault.SearchFault.TheVariants.{OfRow, Read, Memory}

-- a row: its expected results, and the characters of its text if its file gives these
pub record RowView : Type 0 where
  pub expected : Expected
  pub chars : List ℕ

-- the characters that were read, if any were
abbrev pub those_read : Option (List ℕ) → List ℕ
those_read None = []
those_read (Some chars) = chars

-- the characters of a line that is a row: those of its first field; a row of classes has none
abbrev pub characters_of : Kind → List ℕ → List ℕ
characters_of Classes line = []
characters_of (Characters tables) line =
    those_read (each_read char_of (items_of (slice_index_or (fields_of (content_of line)) 0 [])))

-- the row of a line, if the line is one
abbrev pub row_by : Kind → List ℕ → Option Finding → Option RowView
row_by kind line (Some (Row expected)) = Some (record { expected = expected; chars = characters_of kind line })
row_by kind line _ = None

-- the line of this number, from 1, of a file with these lines, if it is a row
abbrev pub row_at : Kind → ℕ → List (List ℕ) → Option RowView
row_at kind number lines =
    row_by kind (slice_index_or lines (number - 1) []) (slice_get (findings_by kind lines) (number - 1))

-- the row, unless a line up to it is malformed: the row may depend on the malformed line
abbrev pub unless_malformed : Option (ℕ × Cause) → Option RowView → Result RowView RowFault
unless_malformed (Some m) row = Err (Malformed m.0 m.1)
unless_malformed None None = Err NoRow
unless_malformed None (Some row) = Ok row

-- the same, or why there is no row: a line up to it is malformed, or it is not a row
abbrev pub row_in_lines : Kind → ℕ → List (List ℕ) → Result RowView RowFault
row_in_lines kind number lines =
    unless_malformed (first_malformed 0 (take number (findings_by kind lines))) (row_at kind number lines)

-- the row at the line of this number of the bytes of a file, or why there is none
abbrev pub wanted_row : Kind → ℕ → List ℕ → Result RowView RowFault
wanted_row kind number bytes = row_in_lines kind number (lines_of bytes)

-- each file that begins with these bytes has this result at the line of this number
abbrev pub IsDecided : Kind → ℕ → List ℕ → Result RowView RowFault → Type 0
IsDecided kind number bytes found = (more : List ℕ) → wanted_row kind number (bytes ++ more) ≡ found

-- each file that begins with these bytes, and has no more if its end was read, has this result at the line of this
-- number
abbrev pub IsWanted : Type 0 → Kind → ℕ → List ℕ → Result RowView RowFault → Type 0
IsWanted HasEnded kind number bytes found =
    (more : List ℕ) → (HasEnded → more ≡ []) → wanted_row kind number (bytes ++ more) ≡ found

-- these bytes don't decide the result at the line of this number: none of the lines that they decide is malformed or
-- has this number
pub record IsUnsettled (kind : Kind) (number : ℕ) (bytes : List ℕ) : Type 0 where
  pub sound : first_malformed 0 (findings_by kind (decided_lines bytes)) ≡ None
  pub before : length (decided_lines bytes) < number

-- the result of a search in a file of which these bytes were read: the row, or why there is none; a read that failed
-- before that was decided; or a failed allocation
abbrev pub Finds : Type 0 → Type 0 → Kind → ℕ → List ℕ → Result RowView SearchFault → Type 0
Finds HasFailed HasEnded kind number bytes (Ok row) = IsWanted HasEnded kind number bytes (Ok row)
Finds HasFailed HasEnded kind number bytes (Err (OfRow fault)) = IsWanted HasEnded kind number bytes (Err fault)
Finds HasFailed HasEnded kind number bytes (Err Read) = HasFailed × IsUnsettled kind number bytes
Finds HasFailed HasEnded kind number bytes (Err Memory) = Unit {0}
