-- The state of a search for a row, and the bytes that it represents.
use Rattle.std.specs.Prelude.{◌≡◌, ◌<◌, ◌≤◌, Option, Result, Ok, Err, Some, None, ℕ, List, ◌++◌, length, take}
use Rattle.units.specs.LineCutting.{Cutting, Represents}
use Rattle.units.specs.Lines.{CutsInto}
use Rattle.units.specs.declared.line_cut.Cut.{Cut}
use Rattle.units.specs.declared.line_cut.Cut.TheVariants.{More, Line, TooLong}
use Rattle.bidtests.specs.declared.kind.Kind.{Kind}
use Rattle.bidtests.specs.declared.line_reader.Asked.{Asked}
use Rattle.bidtests.specs.declared.verdict.Cause.TheVariants.{LineTooLong}
use Rattle.bidtests.specs.Carried.{AreInForce}
use Rattle.bidtests.specs.FileKinds.{findings_by}
use Rattle.bidtests.specs.LineReadings.{LineReading, expected_in, levels_in, order_in, finding_after, IsAfterOneLine}
use Rattle.bidtests.specs.Verdicts.{Silent, Faulty}
use Rattle.report.specs.FileReports.{first_malformed}
use Rattle.report.specs.Reporting.{cause_of}
use Rattle.explain.specs.declared.row_fault.RowFault.{RowFault}
use Rattle.explain.specs.declared.row_fault.RowFault.TheVariants.{Malformed, NoRow}
use Rattle.explain.specs.declared.row_fault.SearchFault.{SearchFault}
use Rattle.explain.specs.WantedRows.{RowView, IsDecided, row_by, wanted_row}

-- what is stored from line to line, and the characters of the row
pub record RowReading : Type 0 where
  pub reading : LineReading
  pub chars : List ℕ

-- the row that asks for this, from what is stored
abbrev pub row_in : RowReading → Asked → RowView
row_in s asked = record { expected = expected_in s.reading asked; chars = s.chars }

-- what a line gives in a search for the wanted line: no row if it is earlier, and otherwise its row or why it is none
abbrev pub SaysOfRow : Kind → ℕ → ℕ → List ℕ → RowReading → RowReading → Result (Option Asked) RowFault → Type 0
SaysOfRow kind wanted number line before after (Ok None) = (number < wanted)
    × (cause_of (finding_after kind before.reading line) ≡ None) × IsAfterOneLine kind line before.reading after.reading
SaysOfRow kind wanted number line before after (Ok (Some asked)) = (wanted ≤ number)
    × (row_by kind line (Some (finding_after kind before.reading line)) ≡ Some (row_in after asked))
SaysOfRow kind wanted number line before after (Err (Malformed at cause)) =
    (at ≡ number) × (finding_after kind before.reading line ≡ Faulty cause)
SaysOfRow kind wanted number line before after (Err NoRow) =
    (wanted ≤ number) × (finding_after kind before.reading line ≡ Silent)

-- the same for the line that a step of the line splitter ends, if it ends one
abbrev pub SaysOfCut : Kind → ℕ → Cut → RowReading → RowReading → Result (Option Asked) RowFault → Type 0
SaysOfCut kind wanted More before after result = (result ≡ Ok None) × (after ≡ before)
SaysOfCut kind wanted (Line number text) before after result = SaysOfRow kind wanted number text.now before after result
SaysOfCut kind wanted (TooLong number) before after result = result ≡ Err (Malformed number LineTooLong)

-- the state of a search: the place of the line splitter in a line, and what is stored between lines
pub record Searching : Type 0 where
  pub cutting : Cutting
  pub rows : RowReading

-- the search took these bytes, in any pieces, and has not reached the wanted line; no earlier line is malformed
pub record SearchesOn (kind : Kind) (wanted : ℕ) (s : Searching) (bytes : List ℕ) : Type 0 where
  pub splitter : Represents s.cutting bytes
  pub lines : List (List ℕ)
  pub rest : List ℕ
  pub cut : CutsInto bytes lines rest
  pub before : length lines < wanted
  pub sound : first_malformed 0 (findings_by kind lines) ≡ None
  pub lists : AreInForce kind (levels_in s.rows.reading) (order_in s.rows.reading) lines

-- the result of a search that took these bytes: it continues, it has a row, or it has the reason why there is none
abbrev pub SearchComesTo : Kind → ℕ → Searching → List ℕ → Result (Option Asked) RowFault → Type 0
SearchComesTo kind wanted s bytes (Ok None) = SearchesOn kind wanted s bytes
SearchComesTo kind wanted s bytes (Ok (Some asked)) = IsDecided kind wanted bytes (Ok (row_in s.rows asked))
SearchComesTo kind wanted s bytes (Err fault) = IsDecided kind wanted bytes (Err fault)

-- the same after bytes and the used bytes of a piece
abbrev pub PieceSettles : Kind → ℕ → Searching → List ℕ → List ℕ → Result (ℕ × Option Asked) RowFault → Type 0
PieceSettles kind wanted s bytes piece (Ok taken) =
    SearchComesTo kind wanted s (bytes ++ take taken.0 piece) (Ok taken.1)
PieceSettles kind wanted s bytes piece (Err fault) = SearchComesTo kind wanted s (bytes ++ piece) (Err fault)

-- the result of a search at the end of the file
abbrev pub EndsWith : Kind → ℕ → Searching → List ℕ → Result Asked RowFault → Type 0
EndsWith kind wanted s bytes (Ok asked) = wanted_row kind wanted bytes ≡ Ok (row_in s.rows asked)
EndsWith kind wanted s bytes (Err fault) = wanted_row kind wanted bytes ≡ Err fault

-- the same, from the result of the last line; if that is not a row, there is none
abbrev pub EndsLast : Result (Option Asked) RowFault → Result Asked RowFault → Type 0
EndsLast (Ok None) ended = ended ≡ Err NoRow
EndsLast (Ok (Some asked)) ended = ended ≡ Ok asked
EndsLast (Err fault) ended = ended ≡ Err fault

-- the row that asks for this, from what is stored, or the fault
abbrev pub row_or_fault : RowReading → Result Asked SearchFault → Result RowView SearchFault
row_or_fault s (Ok asked) = Ok (row_in s asked)
row_or_fault s (Err fault) = Err fault
