-- The line of text for a verdict, as bytes.
use Rattle.std.specs.Prelude.{ℕ, List, [], ◌∷◌, ◌++◌, codes}
use Rattle.std.specs.List.{concat}
use Rattle.std.specs.Fmt.{decimal}
use Rattle.units.specs.declared.level.Direction.{Direction}
use Rattle.units.specs.declared.level.Direction.TheVariants.{Auto, Ltr, Rtl, AutoRtl}
use Rattle.bidtests.specs.declared.verdict.Cause.{Cause}
use Rattle.bidtests.specs.declared.verdict.Cause.TheVariants.{LineTooLong, Directive, LevelItem, OrderItem, ClassItem, BitSet, NoExpectation, FieldCount, CodePoint, DirectionField, ParaField, EmptyRow}
use Rattle.bidtests.specs.declared.verdict.Place.{Place}
use Rattle.bidtests.specs.declared.verdict.Place.TheVariants.{ParaLevel, Levels, Order}
use Rattle.bidtests.specs.declared.verdict.Verdict.{Verdict}
use Rattle.bidtests.specs.declared.verdict.Verdict.TheVariants.{Yes, Malformed, Wrong}

-- the name of the cause for which a line is malformed
abbrev pub cause_name : Cause → List ℕ
cause_name LineTooLong = codes "LineTooLong"
cause_name Directive = codes "Directive"
cause_name LevelItem = codes "LevelItem"
cause_name OrderItem = codes "OrderItem"
cause_name ClassItem = codes "ClassItem"
cause_name BitSet = codes "BitSet"
cause_name NoExpectation = codes "NoExpectation"
cause_name FieldCount = codes "FieldCount"
cause_name CodePoint = codes "CodePoint"
cause_name DirectionField = codes "DirectionField"
cause_name ParaField = codes "ParaField"
cause_name EmptyRow = codes "EmptyRow"

-- the word for the direction of a wrong case
abbrev pub direction_word : Direction → List ℕ
direction_word Auto = codes "auto"
direction_word Ltr = codes "ltr"
direction_word Rtl = codes "rtl"
direction_word AutoRtl = codes "auto-rtl"

-- the place of a wrong case, with indices counted from 0, and the end of the line
abbrev pub place_text : Place → List ℕ
place_text ParaLevel = codes "paragraph level\n"
place_text (Levels index) = concat (codes "levels at " ∷ decimal index ∷ codes "\n" ∷ [])
place_text (Order index) = concat (codes "order at " ∷ decimal index ∷ codes "\n" ∷ [])

-- the line of a verdict, with its LF: lines of the file are counted from 1
abbrev pub verdict_text : Verdict → List ℕ
verdict_text (Yes rows cases) =
    concat (codes "yes: " ∷ decimal rows ∷ codes " rows, " ∷ decimal cases ∷ codes " cases\n" ∷ [])
verdict_text (Malformed line cause) =
    concat (codes "no: line " ∷ decimal line ∷ codes ": malformed: " ∷ cause_name cause ∷ codes "\n" ∷ [])
verdict_text (Wrong line direction place) =
    concat (codes "no: line " ∷ decimal line ∷ codes ": " ∷ direction_word direction ∷ codes ": " ∷ [])
    ++ place_text place
