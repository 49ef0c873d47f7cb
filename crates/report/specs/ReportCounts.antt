-- The counts of a report.
use Rattle.std.specs.Prelude.{ℕ, ◌+◌, min, Bool, true, false, List, length}
use Rattle.std.specs.Option.{is_some}
use Rattle.std.specs.List.{count_by, list_any}
use Rattle.report.specs.declared.terms.Terms.{Terms}
use Rattle.units.specs.Lines.{saturated}
use Rattle.units.specs.declared.level.Direction.{Direction}
use Rattle.units.specs.declared.level.Direction.TheVariants.{Auto, Ltr, Rtl, AutoRtl}
use Rattle.bidtests.specs.declared.verdict.Place.{Place}
use Rattle.bidtests.specs.declared.verdict.Place.TheVariants.{ParaLevel as AtParaLevel, Levels as AtLevels, Order as AtOrder}
use Rattle.bidtests.specs.Verdicts.{Finding, Silent, Row, Faulty, rows_in, cases_in}
use Rattle.report.specs.declared.wrong_case.WrongCase.{WrongCase}
use Rattle.report.specs.declared.case_counts.ByDirection.{ByDirection}
use Rattle.report.specs.declared.case_counts.ByPart.{ByPart}
use Rattle.report.specs.declared.case_counts.Part.{Part}
use Rattle.report.specs.declared.case_counts.Part.TheVariants.{ParaLevel, Levels, Order}
use Rattle.report.specs.declared.case_counts.CaseCounts.{CaseCounts}
use Rattle.report.specs.ReadExpected.{place_under}
use Rattle.report.specs.WrongCases.{wrong_cases_from}

-- the directions are the same
abbrev pub same_direction : Direction → Direction → Bool
same_direction Auto Auto = true
same_direction Ltr Ltr = true
same_direction Rtl Rtl = true
same_direction AutoRtl AutoRtl = true
same_direction _ _ = false

-- the case is wrong under the direction
abbrev pub is_under : Direction → WrongCase → Bool
is_under d w = same_direction w.direction d

-- the part of a row's expected values that a place belongs to
abbrev pub part_of : Place → Part
part_of AtParaLevel = ParaLevel
part_of (AtLevels i) = Levels
part_of (AtOrder i) = Order

-- the parts are the same
abbrev pub same_part : Part → Part → Bool
same_part ParaLevel ParaLevel = true
same_part Levels Levels = true
same_part Order Order = true
same_part _ _ = false

-- the first difference is in this part
abbrev pub is_of : Part → WrongCase → Bool
is_of part w = same_part (part_of w.place) part

-- the line is a row that is wrong under at least one of its directions
abbrev pub is_wrong_row : Terms → Finding → Bool
is_wrong_row terms Silent = false
is_wrong_row terms (Faulty cause) = false
is_wrong_row terms (Row expected) = list_any (λ d. is_some (place_under terms expected d)) expected.directions

-- how many of these cases satisfy the predicate, counted up to 2^64 - 1
abbrev pub counted_by : (WrongCase → Bool) → List WrongCase → ℕ
counted_by holds ws = saturated (count_by holds ws)

-- how many of these cases are under each direction
abbrev pub counts_by_direction : List WrongCase → ByDirection
counts_by_direction ws = record {
  auto = counted_by (is_under Auto) ws;
  ltr = counted_by (is_under Ltr) ws;
  rtl = counted_by (is_under Rtl) ws;
  auto_rtl = counted_by (is_under AutoRtl) ws;
}

-- how many of these cases there are by what differs first
abbrev pub counts_by_part : List WrongCase → ByPart
counts_by_part ws = record {
  para_level = counted_by (is_of ParaLevel) ws;
  levels = counted_by (is_of Levels) ws;
  order = counted_by (is_of Order) ws;
}

-- the counts of these lines without a malformed one
abbrev pub counts_of : Terms → List Finding → CaseCounts
counts_of terms fs = record {
  rows = rows_in fs;
  cases = cases_in fs;
  wrong_rows = saturated (count_by (is_wrong_row terms) fs);
  wrong_cases = saturated (length (wrong_cases_from terms 0 fs));
  by_direction = counts_by_direction (wrong_cases_from terms 0 fs);
  by_part = counts_by_part (wrong_cases_from terms 0 fs);
}

-- before the first row
abbrev pub nothing_counted : CaseCounts
nothing_counted = record {
  rows = 0;
  cases = 0;
  wrong_rows = 0;
  wrong_cases = 0;
  by_direction = record { auto = 0; ltr = 0; rtl = 0; auto_rtl = 0 };
  by_part = record { para_level = 0; levels = 0; order = 0 };
}

-- the counts with these wrong cases added
abbrev pub more_by_direction : List WrongCase → ByDirection → ByDirection
more_by_direction ws t = record {
  auto = saturated (t.auto + count_by (is_under Auto) ws);
  ltr = saturated (t.ltr + count_by (is_under Ltr) ws);
  rtl = saturated (t.rtl + count_by (is_under Rtl) ws);
  auto_rtl = saturated (t.auto_rtl + count_by (is_under AutoRtl) ws);
}

abbrev pub more_by_part : List WrongCase → ByPart → ByPart
more_by_part ws t = record {
  para_level = saturated (t.para_level + count_by (is_of ParaLevel) ws);
  levels = saturated (t.levels + count_by (is_of Levels) ws);
  order = saturated (t.order + count_by (is_of Order) ws);
}

-- the counts with one row added that has so many cases, these of them wrong
abbrev pub with_row : ℕ → List WrongCase → CaseCounts → CaseCounts
with_row cases ws t = record {
  rows = saturated (t.rows + 1);
  cases = saturated (t.cases + cases);
  wrong_rows = saturated (t.wrong_rows + min (length ws) 1);
  wrong_cases = saturated (t.wrong_cases + length ws);
  by_direction = more_by_direction ws t.by_direction;
  by_part = more_by_part ws t.by_part;
}
