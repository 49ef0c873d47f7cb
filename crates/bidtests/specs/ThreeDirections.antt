-- The verdict as it is if no row may ask for AutoRtl: a bit set is one digit of 1 to 7, and a direction field `0`, `1`
-- or `2`.
use Rattle.std.specs.Prelude.{Option, ℕ, ◌≡◌, ◌≢◌, Bool, false, ◌-◌, ◌%◌, ◌/◌, ◌==◌, ◌&&◌, nat_le, if◌then◌else◌, List, [], ◌∷◌, filter, map, Some, None, codes}
use Rattle.std.specs.Str.{bytes_eq}
use Rattle.units.specs.Limits.{LimitsOf}
use Rattle.units.specs.Text.{lines_of}
use Rattle.units.specs.declared.bracket.Unit.{Unit as BidiUnit}
use Rattle.units.specs.declared.level.Direction.{Direction}
use Rattle.units.specs.declared.level.Direction.TheVariants.{Auto, Ltr, Rtl, AutoRtl}
use Rattle.bidtests.specs.declared.kind.Kind.{Kind}
use Rattle.bidtests.specs.declared.kind.Kind.TheVariants.{Classes, Characters}
use Rattle.bidtests.specs.declared.verdict.Cause.TheVariants.{BitSet, DirectionField}
use Rattle.bidtests.specs.declared.verdict.Verdict.{Verdict}
use Rattle.bidtests.specs.declared.verdict.Verdict.TheVariants.{Malformed}
use Rattle.bidtests.specs.Verdicts.{Finding, verdict_on}
use Rattle.bidtests.specs.ClassesFile.{ClassesLine, classes_line_by, findings_after}
use Rattle.bidtests.specs.CharactersFile.{characters_line_by}
use Rattle.bidtests.specs.FileKinds.{verdict_of}
use Rattle.ucdfiles.specs.Tables.{unit_by}

-- bit 1 names auto, bit 2 LTR, bit 4 RTL
abbrev pub names_one_of_three : ℕ → Direction → Bool
names_one_of_three bits Auto = bits % 2 == 1
names_one_of_three bits Ltr = bits / 2 % 2 == 1
names_one_of_three bits Rtl = bits / 4 == 1
names_one_of_three bits AutoRtl = false

-- the directions that a bit set names: exactly one digit of 1 to 7
abbrev pub one_digit : List ℕ → Option (List Direction)
one_digit (d ∷ []) =
    if nat_le 49 d && nat_le d 55 then Some (filter (names_one_of_three (d - 48)) (Auto ∷ Ltr ∷ Rtl ∷ [])) else None
one_digit _ = None

-- the direction that a direction field asks for
abbrev pub zero_to_two : List ℕ → Option Direction
zero_to_two field =
    if bytes_eq field (codes "0") then Some Ltr else if bytes_eq field (codes "1") then Some Rtl else if bytes_eq field
    (codes "2") then Some Auto else None

-- the meaning of a line of a BidiTest.txt without the others
unfoldable pub three_classes_line : List ℕ → ClassesLine
three_classes_line line = classes_line_by one_digit line

-- the finding of a line of a BidiCharacterTest.txt
unfoldable pub three_characters_line : (ℕ → BidiUnit) → List ℕ → Finding
three_characters_line unit_of line = characters_line_by zero_to_two unit_of line

-- the verdict on the bytes of a file of this kind
abbrev pub three_verdict_of : LimitsOf → Kind → List ℕ → Verdict
three_verdict_of limits Classes bytes = verdict_on limits (findings_after [] (map three_classes_line (lines_of bytes)))
three_verdict_of limits (Characters tables) bytes =
    verdict_on limits (map (three_characters_line (unit_by tables.now)) (lines_of bytes))

-- the verdict isn't that a bit set or a direction field is malformed
abbrev pub IsOfThreeDirections : LimitsOf → Kind → List ℕ → Type 0
IsOfThreeDirections limits kind bytes =
    ((line : ℕ) → three_verdict_of limits kind bytes ≢ Malformed line BitSet)
    × ((line : ℕ) → three_verdict_of limits kind bytes ≢ Malformed line DirectionField)

-- the verdict is the one that the file has if rows may ask for each of the four directions
abbrev pub IsJudgedAlike : LimitsOf → Kind → List ℕ → Type 0
IsJudgedAlike limits kind bytes = verdict_of limits kind bytes ≡ three_verdict_of limits kind bytes
