-- The search for a row of a conformance file, and its explanation.
use Rattle.std.specs.Prelude.{◌≡◌, ℕ, List, Option, Result, Ok, Err}
use Rattle.std.specs.Borrow.{Bor}
use Rattle.std.specs.Io.KnownBytes.{Appends}
use Rattle.units.specs.declared.unread.Unread.{Unread}
use Rattle.bidtests.specs.declared.kind.Kind.{Kind}
use Rattle.printing.specs.declared.written.Written.TheVariants.{Whole}
use Rattle.explain.specs.RowTexts.{row_text}
use Rattle.explain.specs.WantedRows.{IsWanted, IsUnsettled, RowView}
use Rattle.explain.specs.declared.row_fault.RowFault.{RowFault}
use Rattle.explain.specs.declared.row_fault.RowFault.TheVariants.{Malformed, NoRow}
use Rattle.requests.specs.FileRows.{IsKindOfFile, kind_of}
use Rattle.requests.specs.ReadFiles.{FileFacts, most_file_bytes, named_file, origin_of, word_file}
use Rattle.requests.specs.declared.fault.Fault.{Fault}
use Rattle.requests.specs.declared.fault.Fault.TheVariants.{CannotRead, LineIsNoRow, MalformedLine, OutOfMemory}
use Rattle.requests.specs.declared.request.FileKind.{FileKind}
use Rattle.requests.specs.declared.request.WantedRow.{WantedRow}

-- FILE, as a file of these rows, has this result at the line of this number: it begins with bytes that decide the
-- result; if they are all bytes of FILE, they decide it for a file that ends there
pub record HasAtLine (files : FileFacts) (rows : Kind) (number : ℕ) (file : List ℕ) (found : Result RowView RowFault) :
    Type 0 where
  pub bytes : List ℕ
  pub begins : files.Begins (origin_of file) most_file_bytes bytes
  pub wanted : IsWanted (files.Holds (origin_of file) most_file_bytes bytes) rows number bytes found

-- the fault of a file of this kind that has no row at the line of this number
abbrev pub row_fault : Bor (List ℕ) → FileKind → ℕ → RowFault → Fault
row_fault file kind number (Malformed line cause) = MalformedLine file kind line cause
row_fault file kind number NoRow = LineIsNoRow file number

-- a read of FILE fails, for this reason, after bytes that don't decide the result at the line of this number
abbrev pub FailsUnsettled : FileFacts → Kind → ℕ → List ℕ → Unread → Type 0
FailsUnsettled files rows number file unread =
    (bytes : List ℕ) × files.Fails (origin_of file) most_file_bytes bytes unread × IsUnsettled rows number bytes

-- when a fault ends the search for that row in a file that was opened: a read fails before the result is decided; the
-- line is not a row; it or an earlier one is malformed, and the first such line is reported; or an allocation failed
abbrev pub FindsNoRow : FileFacts → Kind → ℕ → List ℕ → Fault → Type 0
FindsNoRow files rows number file (CannotRead name folder most unread Whole) =
    (named_file name folder most ≡ word_file most_file_bytes file) × FailsUnsettled files rows number file unread
FindsNoRow files rows number file (LineIsNoRow named line) =
    (named.now ≡ file) × (line ≡ number) × HasAtLine files rows number file (Err NoRow)
FindsNoRow files rows number file (MalformedLine named kind line cause) =
    (named.now ≡ file) × (kind ≡ kind_of rows) × HasAtLine files rows number file (Err (Malformed line cause))
FindsNoRow files rows number file OutOfMemory = Unit {0}
FindsNoRow files rows number file _ = ⊥

-- the search returned the wanted row, with the tables of its source if they are needed, and the known output grew by
-- what is printed of the row
pub record HasExplainedRow (files : FileFacts) (wanted : WantedRow) (before after : Option (List ℕ)) : Type 0 where
  pub rows : Kind
  pub is : IsKindOfFile files wanted.kind wanted.tables rows
  pub row : RowView
  pub found : HasAtLine files rows wanted.line.value wanted.file.now (Ok row)
  pub noted : Appends before after (row_text wanted.line.value row)
