-- The maximum length of the line of a verdict.
use Rattle.std.proofs.Common.{ℕ, ◌<◌, ◌≤◌, ◌^◌, length, length-append, arith}
use Rattle.std.specs.Fmt.{decimal}
use Rattle.std.proofs.lemmas.Fmt.{length-decimal-le}
use Rattle.units.specs.declared.level.Direction.{Direction}
use Rattle.units.specs.declared.level.Direction.TheVariants.{Auto, Ltr, Rtl, AutoRtl}
use Rattle.bidtests.specs.VerdictText.{verdict_text, direction_word, cause_name}
use Rattle.bidtests.specs.declared.verdict.Cause.{Cause}
use Rattle.bidtests.specs.declared.verdict.Cause.TheVariants.{LineTooLong, Directive, LevelItem, OrderItem, ClassItem, BitSet, NoExpectation, FieldCount, CodePoint, DirectionField, ParaField, EmptyRow}
use Rattle.bidtests.specs.declared.verdict.Place.TheVariants.{ParaLevel, Levels, Order}
use Rattle.bidtests.specs.declared.verdict.Verdict.{Verdict}
use Rattle.bidtests.specs.declared.verdict.Verdict.TheVariants.{Yes, Malformed, Wrong}
use Rattle.for_c.specs.VerdictLines.{HasSmallNumbers}

-- a number of 64 bits has at most 20 digits
few_digits : (n : ℕ) → n < 2 ^ 64 → length (decimal n) ≤ 20
few_digits n small = length-decimal-le 20 n (omega arith) (omega arith) small

-- the longest name of a cause, and the longest word for a direction
cause_short : (cause : Cause) → length (cause_name cause) ≤ 14
cause_short LineTooLong = omega arith
cause_short Directive = omega arith
cause_short LevelItem = omega arith
cause_short OrderItem = omega arith
cause_short ClassItem = omega arith
cause_short BitSet = omega arith
cause_short NoExpectation = omega arith
cause_short FieldCount = omega arith
cause_short CodePoint = omega arith
cause_short DirectionField = omega arith
cause_short ParaField = omega arith
cause_short EmptyRow = omega arith

direction_short : (direction : Direction) → length (direction_word direction) ≤ 8
direction_short Ltr = omega arith
direction_short Rtl = omega arith
direction_short Auto = omega arith
direction_short AutoRtl = omega arith

-- the line of a verdict whose numbers have 64 bits
pub line_short : (verdict : Verdict) → HasSmallNumbers verdict → length (verdict_text verdict) ≤ 72
line_short (Yes rows cases) small =
    simp length-append (omega (arith, few_digits rows small.0, few_digits cases small.1))
line_short (Malformed line cause) small =
    simp length-append (omega (arith, few_digits line small, cause_short cause))
line_short (Wrong line direction ParaLevel) small =
    simp length-append (omega (arith, few_digits line small.0, direction_short direction))
line_short (Wrong line direction (Levels index)) small =
    simp length-append
    (omega (arith, few_digits line small.0, few_digits index small.1, direction_short direction))
line_short (Wrong line direction (Order index)) small =
    simp length-append
    (omega (arith, few_digits line small.0, few_digits index small.1, direction_short direction))
