-- Verdicts as numbers.
use Rattle.std.specs.Prelude.{ℕ}
use Rattle.bidtests.specs.declared.verdict.Cause.{Cause}
use Rattle.bidtests.specs.declared.verdict.Cause.TheVariants.{LineTooLong, Directive, LevelItem, OrderItem, ClassItem, BitSet, NoExpectation, FieldCount, CodePoint, DirectionField, ParaField, EmptyRow}
use Rattle.bidtests.specs.declared.verdict.Place.{Place}
use Rattle.bidtests.specs.declared.verdict.Place.TheVariants.{ParaLevel, Levels, Order}
use Rattle.bidtests.specs.declared.verdict.Verdict.{Verdict}
use Rattle.bidtests.specs.declared.verdict.Verdict.TheVariants.{Yes, Malformed, Wrong}
use Rattle.for_c.specs.Directions.{direction_number}
use Rattle.for_c.specs.declared.verdict.BidiVerdict.{BidiVerdict}

-- the number of the cause for which a line is malformed
abbrev pub cause_number : Cause → ℕ
cause_number LineTooLong = 1
cause_number Directive = 2
cause_number LevelItem = 3
cause_number OrderItem = 4
cause_number ClassItem = 5
cause_number BitSet = 6
cause_number NoExpectation = 7
cause_number FieldCount = 8
cause_number CodePoint = 9
cause_number DirectionField = 10
cause_number ParaField = 11
cause_number EmptyRow = 12

-- the number of the part of a case that is wrong
abbrev pub place_number : Place → ℕ
place_number ParaLevel = 1
place_number (Levels index) = 2
place_number (Order index) = 3

-- the index at which it is wrong
abbrev pub index_in : Place → ℕ
index_in ParaLevel = 0
index_in (Levels index) = index
index_in (Order index) = index

-- a verdict as C gets it: 0 is yes, 1 a malformed line, 2 a wrong case
abbrev pub verdict_for_c : Verdict → BidiVerdict
verdict_for_c (Yes rows cases) =
    record { answer = 0; reason = 0; direction = 0; line = 0; index = 0; rows = rows; cases = cases }
verdict_for_c (Malformed line cause) =
    record { answer = 1; reason = cause_number cause; direction = 0; line = line; index = 0; rows = 0; cases = 0 }
verdict_for_c (Wrong line direction place) =
    record {
      answer = 2;
      reason = place_number place;
      direction = direction_number direction;
      line = line;
      index = index_in place;
      rows = 0;
      cases = 0;
    }
