-- The state that a judge carries from line to line, and the failing verdict of a line.
use Rattle.std.specs.Prelude.{◌≡◌, Option, Some, None, ℕ, ◌+◌, List, map, reverse, length, ⊤}
use Rattle.std.specs.Borrow.{Bor}
use Rattle.units.specs.Limits.{LimitsOf}
use Rattle.units.specs.Lines.{saturated}
use Rattle.units.specs.declared.line_cut.Cut.{Cut}
use Rattle.units.specs.declared.line_cut.Cut.TheVariants.{More, Line, TooLong}
use Rattle.ucdfiles.specs.Tables.{unit_by}
use Rattle.bidtests.specs.declared.kind.Kind.{Kind}
use Rattle.bidtests.specs.declared.kind.Kind.TheVariants.{Classes, Characters}
use Rattle.bidtests.specs.declared.verdict.Verdict.{Verdict}
use Rattle.bidtests.specs.declared.verdict.Verdict.TheVariants.{Yes, Malformed}
use Rattle.bidtests.specs.declared.verdict.Cause.TheVariants.{LineTooLong}
use Rattle.bidtests.specs.Verdicts.{Finding, Row, first_no, no_of, rows_in, cases_in}
use Rattle.bidtests.specs.ClassesFile.{ClassesLine, LevelsAre, OrderIs, classes_line, comes_to, levels_in_force, order_in_force}
use Rattle.bidtests.specs.CharactersFile.{characters_line}
use Rattle.bidtests.specs.FileKinds.{findings_by}

-- what a judge carries from line to line: the limits, the lists in force, and how many rows and cases were right
pub record Carried : Type 0 where
  pub limits : LimitsOf
  pub levels : Option (List (Option ℕ))
  pub order : Option (List ℕ)
  pub rows : ℕ
  pub cases : ℕ

-- before the first line
abbrev pub at_start : LimitsOf → Carried
at_start limits = record { limits = limits; levels = None; order = None; rows = 0; cases = 0 }

-- the levels in force after this line
abbrev pub levels_after : ClassesLine → Option (List (Option ℕ)) → Option (List (Option ℕ))
levels_after (LevelsAre levels) before = Some levels
levels_after _ before = before

-- the order in force after this line
abbrev pub order_after : ClassesLine → Option (List ℕ) → Option (List ℕ)
order_after (OrderIs order) before = Some order
order_after _ before = before

-- the number of rows after a line with this finding
abbrev pub rows_after : Finding → ℕ → ℕ
rows_after (Row expected) before = saturated (before + 1)
rows_after _ before = before

-- the number of cases after a line with this finding
abbrev pub cases_after : Finding → ℕ → ℕ
cases_after (Row expected) before = saturated (before + length expected.directions)
cases_after _ before = before

-- the state after the row and the cases of this finding are counted
abbrev pub counted : Finding → Carried → Carried
counted found s = record {
  limits = s.limits;
  levels = s.levels;
  order = s.order;
  rows = rows_after found s.rows;
  cases = cases_after found s.cases;
}

-- the state after a right row with so many cases is counted
abbrev pub with_right_row : ℕ → Carried → Carried
with_right_row cases s = record {
  limits = s.limits;
  levels = s.levels;
  order = s.order;
  rows = saturated (s.rows + 1);
  cases = saturated (s.cases + cases);
}

-- the state in which the list of this line of a classes file is in force
abbrev pub listed : ClassesLine → Carried → Carried
listed noted s = record {
  limits = s.limits;
  levels = levels_after noted s.levels;
  order = order_after noted s.order;
  rows = s.rows;
  cases = s.cases;
}

-- the state in which no list is in force
abbrev pub unlisted : Carried → Carried
unlisted s = record { limits = s.limits; levels = None; order = None; rows = s.rows; cases = s.cases }

-- the finding of a line of a file of this kind, in this state
abbrev pub comes_to_after : Kind → Carried → List ℕ → Finding
comes_to_after Classes s line = comes_to s.levels s.order (classes_line line)
comes_to_after (Characters tables) s line = characters_line (unit_by tables.now) line

-- the state in which the list of this line is in force; a characters file has none
abbrev pub listed_by : Kind → List ℕ → Carried → Carried
listed_by Classes line s = listed (classes_line line) s
listed_by (Characters tables) line s = unlisted s

-- the state after a line that is neither malformed nor wrong
abbrev pub after_line : Kind → List ℕ → Carried → Carried
after_line kind line s = counted (comes_to_after kind s line) (listed_by kind line s)

-- these lists are in force after these lines
abbrev pub AreInForce : Kind → Option (List (Option ℕ)) → Option (List ℕ) → List (List ℕ) → Type 0
AreInForce Classes levels order lines =
    (levels ≡ levels_in_force (reverse (map classes_line lines))) ×
    (order ≡ order_in_force (reverse (map classes_line lines)))
AreInForce (Characters tables) levels order lines = ⊤

-- this is the state after these lines, and none of them is malformed or, with these limits, wrong
pub record IsAfter (limits : LimitsOf) (kind : Kind) (s : Carried) (lines : List (List ℕ)) : Type 0 where
  pub under : s.limits ≡ limits
  pub faultless : first_no limits 0 (findings_by kind lines) ≡ None
  pub lists : AreInForce kind s.levels s.order lines
  pub rows : s.rows ≡ rows_in (findings_by kind lines)
  pub cases : s.cases ≡ cases_in (findings_by kind lines)

-- the failing verdict of the line of this number
abbrev pub no_at : Kind → Carried → ℕ → List ℕ → Option Verdict
no_at kind s number line = no_of s.limits number (comes_to_after kind s line)

-- the failing verdict of a cut
abbrev pub no_by : Kind → Carried → Cut → Option Verdict
no_by kind s More = None
no_by kind s (Line number text) = no_at kind s number text.now
no_by kind s (TooLong number) = Some (Malformed number LineTooLong)

-- the state after a cut without a failing verdict
abbrev pub after_cut : Kind → Cut → Carried → Carried
after_cut kind More s = s
after_cut kind (Line number text) s = after_line kind text.now s
after_cut kind (TooLong number) s = s

-- the failing verdict, or else yes with the counts of the state
abbrev pub no_or_yes : Option Verdict → Carried → Verdict
no_or_yes (Some verdict) s = verdict
no_or_yes None s = Yes s.rows s.cases

-- the verdict at the end of the file, with the last line if it has no LF
abbrev pub verdict_after : Kind → Carried → Option (ℕ × Bor (List ℕ)) → Verdict
verdict_after kind s None = Yes s.rows s.cases
verdict_after kind s (Some last) = no_or_yes (no_at kind s last.0 last.1.now) (after_line kind last.1.now s)
