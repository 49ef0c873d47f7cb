-- The results of reading a line, in the terms of the grammar.
use Rattle.std.specs.Borrow.{Bor}
use Rattle.std.specs.Prelude.{Option, Result, Ok, Err, Some, None, ◌≡◌, Bool, true, false, ℕ, List, [], ◌∷◌}
use Rattle.units.specs.declared.bracket.Unit.{Unit as BidiUnit}
use Rattle.units.specs.declared.level.Direction.{Direction}
use Rattle.bidtests.specs.declared.verdict.Cause.{Cause}
use Rattle.units.specs.Isolates.{level_of_para}
use Rattle.units.specs.declared.level.ParaLevel.{ParaLevel}
use Rattle.std.specs.Option.{option_map}
use Rattle.bidtests.specs.declared.characters_row.RowFields.{RowFields}
use Rattle.bidtests.specs.declared.expected.Expected.{Expected as RowExpected}
use Rattle.bidtests.specs.Verdicts.{Expected, Finding, Row, Faulty}
use Rattle.bidtests.specs.ClassesFile.{ClassesLine, RowOf, Broken}

-- the list, if it was read
abbrev pub if_read : {A : Type 0} → Bool → List A → Option (List A)
if_read true items = Some items
if_read false items = None

-- the five fields of a row of a characters file, in order
abbrev pub fields_in : RowFields → List (List ℕ)
fields_in row = row.characters.now ∷ row.direction.now ∷ row.para_level.now ∷ row.levels.now ∷ row.order.now ∷ []

-- the target of this reference is this list, or both are none
abbrev pub MatchesNow : {A : Type 0} → Option (Bor (List A)) → Option (List A) → Type 0
MatchesNow None found = found ≡ None
MatchesNow (Some r) found = found ≡ Some r.now

-- the row with these directions and this text, or the cause
abbrev pub row_read : Result (Bor (List Direction)) Cause → List BidiUnit → ClassesLine
row_read (Ok directions) text = RowOf text directions.now
row_read (Err cause) text = Broken cause

-- what a row of a classes file or of a characters file expects
abbrev pub expected_of : RowExpected → Expected
expected_of c = record {
  text = c.text.now;
  directions = c.directions.now;
  para_level = option_map level_of_para c.para_level;
  levels = c.levels.now;
  order = c.order.now;
}

-- the finding of a row with this direction, this paragraph level and these lists, or the cause
abbrev pub expected_read : Result (Direction × ParaLevel) Cause → List BidiUnit → List (Option ℕ) → List ℕ → Finding
expected_read (Ok asked) text levels order =
    Row (record {
      text = text;
      directions = asked.0 ∷ [];
      para_level = Some (level_of_para asked.1);
      levels = levels;
      order = order;
    })
expected_read (Err cause) text levels order = Faulty cause
