-- Wrong cases and counts as numbers.
use Rattle.std.specs.Prelude.{ℕ, Option, Some, None}
use Rattle.bidtests.specs.declared.verdict.Cause.{Cause}
use Rattle.report.specs.FileReports.{FileReport}
use Rattle.report.specs.declared.case_counts.CaseCounts.{CaseCounts}
use Rattle.report.specs.declared.wrong_case.Item.{Item}
use Rattle.report.specs.declared.wrong_case.Item.TheVariants.{Ended, Removed, Level, Position}
use Rattle.report.specs.declared.wrong_case.WrongCase.{WrongCase}
use Rattle.for_c.specs.Directions.{direction_number}
use Rattle.for_c.specs.VerdictNumbers.{cause_number, place_number, index_in}
use Rattle.for_c.specs.declared.wrong_case.BidiItem.{BidiItem}
use Rattle.for_c.specs.declared.wrong_case.BidiWrongCase.{BidiWrongCase}
use Rattle.for_c.specs.declared.counts.BidiCounts.{BidiCounts}

-- the item at a place: 0 if the list ends before it, 1 a position that X9 removes, 2 a level, 3 a position
abbrev pub item_for_c : Item → BidiItem
item_for_c Ended = record { kind = 0; value = 0 }
item_for_c Removed = record { kind = 1; value = 0 }
item_for_c (Level level) = record { kind = 2; value = level }
item_for_c (Position position) = record { kind = 3; value = position }

-- a wrong case
abbrev pub case_for_c : WrongCase → BidiWrongCase
case_for_c w = record {
  line = w.line;
  direction = direction_number w.direction;
  place = place_number w.place;
  index = index_in w.place;
  claimed = item_for_c w.claimed;
  defined = item_for_c w.defined;
}

-- the number of the first malformed line, from 1, and of its cause; 0 if there is none
abbrev pub malformed_line : Option (ℕ × Cause) → ℕ
malformed_line None = 0
malformed_line (Some m) = m.0

abbrev pub malformed_cause : Option (ℕ × Cause) → ℕ
malformed_cause None = 0
malformed_cause (Some m) = cause_number m.1

-- counts, and the first malformed line
abbrev pub counts_for_c : CaseCounts → Option (ℕ × Cause) → BidiCounts
counts_for_c t malformed = record {
  rows = t.rows;
  cases = t.cases;
  wrong_rows = t.wrong_rows;
  wrong_cases = t.wrong_cases;
  ltr = t.by_direction.ltr;
  rtl = t.by_direction.rtl;
  auto_ltr = t.by_direction.auto;
  auto_rtl = t.by_direction.auto_rtl;
  para_level = t.by_part.para_level;
  levels = t.by_part.levels;
  order = t.by_part.order;
  malformed = malformed_line malformed;
  cause = malformed_cause malformed;
}

-- the counts of a report
abbrev pub counts_for_report : FileReport → BidiCounts
counts_for_report report = counts_for_c report.case_counts report.malformed
