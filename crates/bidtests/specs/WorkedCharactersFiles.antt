-- Examples of character files, and what the definitions compute for them, with the tables of a few characters.
use Rattle.std.specs.Prelude.{ℕ, ◌≡◌, ◌==◌, ◌||◌, if◌then◌else◌, [], ◌∷◌, refl, codes, ⊤}
use Rattle.units.specs.RowWords.{layouts_compute}
use Rattle.units.specs.Limits.{standard}
use Rattle.units.specs.declared.bracket.Bracket.{Bracket}
use Rattle.units.specs.declared.bracket.Bracket.TheVariants.{No, Open, Close}
use Rattle.units.specs.declared.bracket.Unit.{Unit as BidiUnit}
use Rattle.units.specs.declared.class.Class.{Class}
use Rattle.units.specs.declared.class.Class.TheVariants.{L, R, AL, EN, CS, B, WS, ON}
use Rattle.units.specs.declared.level.Direction.TheVariants.{Ltr, AutoRtl}
use Rattle.bidtests.specs.Verdicts.{verdict_on}
use Rattle.bidtests.specs.CharactersFile.{characters_line, characters_verdict}
use Rattle.bidtests.specs.declared.verdict.Place.TheVariants.{ParaLevel, Levels}
use Rattle.bidtests.specs.declared.verdict.Cause.TheVariants.{FieldCount, EmptyRow, CodePoint, DirectionField, ParaField, LevelItem, OrderItem}
use Rattle.bidtests.specs.declared.verdict.Verdict.TheVariants.{Yes, Malformed, Wrong}
use Rattle.bidtests.specs.WorkedClassesFiles.{written}

-- what the examples unfold, as one name
unfoldable pub characters_files_compute : ⊤
unfolding characters_verdict verdict_on characters_line layouts_compute
characters_files_compute = tt

-- the classes of a few characters
abbrev pub class_of_few : ℕ → Class
class_of_few c =
    if c == 0x0A || c == 0x0D then B
    else if c == 0x20 then WS
    else if c == 0x2C then CS
    else if c == 0x31 || c == 0x32 then EN
    else if c == 0x28 || c == 0x29 || c == 0x3C || c == 0x3E || c == 0x5B || c == 0x5D then ON
    else if c == 0x5D0 || c == 0x5D1 then R
    else if c == 0x627 then AL
    else if c == 0x2329 || c == 0x232A || c == 0x3008 || c == 0x3009 then ON
    else L

-- the brackets among them; canonically equivalent ones have the same key
abbrev pub bracket_of_few : ℕ → Bracket
bracket_of_few c =
    if c == 0x28 then Open (record { 0 = 1 })
    else if c == 0x29 then Close (record { 0 = 1 })
    else if c == 0x5B then Open (record { 0 = 2 })
    else if c == 0x5D then Close (record { 0 = 2 })
    else if c == 0x2329 || c == 0x3008 then Open (record { 0 = 3 })
    else if c == 0x232A || c == 0x3009 then Close (record { 0 = 3 })
    else No

-- the units of these characters
abbrev pub unit_of_few : ℕ → BidiUnit
unit_of_few c = record { class = class_of_few c; bracket = bracket_of_few c }

-- a file without lines has no rows
pub empty_characters_file : characters_verdict standard unit_of_few [] ≡ Yes 0 0
unfolding characters_files_compute
empty_characters_file = refl

-- a sixth field, though empty
pub six_fields : characters_verdict standard unit_of_few (written (codes "0061;0;0;0;0;" ∷ [])) ≡ Malformed 1 FieldCount
unfolding characters_files_compute
six_fields = refl

-- no code point
pub no_character : characters_verdict standard unit_of_few (written (codes ";0;0;;" ∷ [])) ≡ Malformed 1 EmptyRow
unfolding characters_files_compute
no_character = refl

-- a surrogate
pub surrogate : characters_verdict standard unit_of_few (written (codes "D800;0;0;0;0" ∷ [])) ≡ Malformed 1 CodePoint
unfolding characters_files_compute
surrogate = refl

-- a direction above 3
pub direction_four : characters_verdict standard unit_of_few (written (codes "0061;4;0;0;0" ∷ [])) ≡
    Malformed 1 DirectionField
unfolding characters_files_compute
direction_four = refl

-- under AutoRtl a paragraph without a strong class is at level 1, and one with L is not
pub space_auto_rtl : characters_verdict standard unit_of_few (written (codes "0020;3;1;1;0" ∷ [])) ≡ Yes 1 1
unfolding characters_files_compute
space_auto_rtl = refl

pub strong_auto_rtl : characters_verdict standard unit_of_few (written (codes "0061;3;1;0;0" ∷ [])) ≡
    Wrong 1 AutoRtl ParaLevel
unfolding characters_files_compute
strong_auto_rtl = refl

-- a paragraph level above 1
pub para_two : characters_verdict standard unit_of_few (written (codes "0061;0;2;0;0" ∷ [])) ≡ Malformed 1 ParaField
unfolding characters_files_compute
para_two = refl

-- the paragraph's level is compared before the levels
pub para_differs : characters_verdict standard unit_of_few (written (codes "0061;0;1;0;0" ∷ [])) ≡ Wrong 1 Ltr ParaLevel
unfolding characters_files_compute
para_differs = refl

-- a line that begins with `@` is a row too
pub no_directive : characters_verdict standard unit_of_few (written (codes "@Levels: 0" ∷ [])) ≡ Malformed 1 FieldCount
unfolding characters_files_compute
no_directive = refl

-- W4: numbers inside R
pub numbers_in_right_to_left : characters_verdict standard unit_of_few
    (written (codes "05D0 0031 002C 0032;0;0;1 2 2 2;1 2 3 0" ∷ [])) ≡ Yes 1 1
unfolding characters_files_compute
numbers_in_right_to_left = refl

-- W2: the EN after AL becomes an AN
pub arabic_number : characters_verdict standard unit_of_few (written (codes "0627 0031;0;0;1 2;1 0" ∷ [])) ≡ Yes 1 1
unfolding characters_files_compute
arabic_number = refl

-- N0: only the opposite direction inside, and R before
pub opposite_inside : characters_verdict standard unit_of_few
    (written (codes "05D0 0028 0061 0029 05D1;1;1;1 1 2 1 1;4 3 2 1 0" ∷ [])) ≡ Yes 1 1
unfolding characters_files_compute
opposite_inside = refl

-- N0: the context before the opening bracket is L
pub l_before_pair : characters_verdict standard unit_of_few
    (written (codes "0061 0028 05D0 0029;0;0;0 0 1 0;0 1 2 3" ∷ [])) ≡ Yes 1 1
unfolding characters_files_compute
l_before_pair = refl

-- BD16: brackets pair by canonical equivalence
pub canonical_brackets : characters_verdict standard unit_of_few
    (written (codes "0061 2329 05D0 3009 05D1;0;0;0 0 1 0 1;0 1 2 3 4" ∷ [])) ≡ Yes 1 1
unfolding characters_files_compute
canonical_brackets = refl

-- BD16: a closing bracket without a match pops nothing
pub unmatched_closing : characters_verdict standard unit_of_few
    (written (codes "0061 0028 005D 05D0 0029 05D1;0;0;0 0 0 1 0 1;0 1 2 3 4 5" ∷ [])) ≡ Yes 1 1
unfolding characters_files_compute
unmatched_closing = refl

-- the causes come in the order of the fields
pub first_cause : characters_verdict standard unit_of_few (written (codes "0061;4;2;127;x" ∷ [])) ≡
    Malformed 1 DirectionField
unfolding characters_files_compute
first_cause = refl

-- a wrong item of the levels comes before one of the order
pub level_before_order : characters_verdict standard unit_of_few (written (codes "0061;0;0;127;x" ∷ [])) ≡
    Malformed 1 LevelItem
unfolding characters_files_compute
level_before_order = refl

-- an order with an item that is not a number
pub letter_in_order : characters_verdict standard unit_of_few (written (codes "0061;0;0;0;x" ∷ [])) ≡
    Malformed 1 OrderItem
unfolding characters_files_compute
letter_in_order = refl

-- an empty first field comes before the others
pub empty_before_fields : characters_verdict standard unit_of_few (written (codes " ;4;2;127;x" ∷ [])) ≡
    Malformed 1 EmptyRow
unfolding characters_files_compute
empty_before_fields = refl

-- the first line decides
pub malformed_after_wrong : characters_verdict standard unit_of_few
    (written (codes "# 0061" ∷ codes "0061;0;1;0;0" ∷ codes "0061" ∷ [])) ≡ Wrong 2 Ltr ParaLevel
unfolding characters_files_compute
malformed_after_wrong = refl

-- each row is one case
pub two_rows : characters_verdict standard unit_of_few
    (written (codes "0061;2;0;0;0" ∷ codes " " ∷ codes "05D0;2;1;1;0" ∷ [])) ≡ Yes 2 2
unfolding characters_files_compute
two_rows = refl

-- BD16: if no bracket can be open, no pair counts, so the closing bracket is R between R and R
pub no_open_bracket : characters_verdict (record {
  depth = 125;
  brackets =
      0;
}) unit_of_few (written (codes "0061 2329 05D0 3009 05D1;0;0;0 0 1 0 1;0 1 2 3 4" ∷ [])) ≡ Wrong 1 Ltr (Levels 3)
unfolding characters_files_compute
no_open_bracket = refl

-- if one can be open, the pair counts
pub one_open_bracket : characters_verdict (record {
  depth = 125;
  brackets =
      1;
}) unit_of_few (written (codes "0061 2329 05D0 3009 05D1;0;0;0 0 1 0 1;0 1 2 3 4" ∷ [])) ≡ Yes 1 1
unfolding characters_files_compute
one_open_bracket = refl
