-- Examples of texts, and what `reorder` prints for them.
use Rattle.std.specs.Prelude.{Option, ℕ, ◌≡◌, ◌==◌, if◌then◌else◌, List, [], ◌∷◌, Some, None, map, refl, codes}
use Rattle.std.specs.Char.{encode_utf8}
use Rattle.units.specs.RowWords.{layouts_compute}
use Rattle.units.specs.declared.class.Class.{Class}
use Rattle.units.specs.declared.class.Class.TheVariants.{L, R, B, WS, ON, LRE, PDF}
use Rattle.units.specs.declared.bracket.Bracket.TheVariants.{No}
use Rattle.units.specs.declared.bracket.Unit.{Unit as BidiUnit}
use Rattle.units.specs.declared.level.Direction.{Direction}
use Rattle.units.specs.declared.level.Direction.TheVariants.{Auto, Ltr, Rtl}
use Rattle.printing.specs.Columns.{column_breaks_of}
use Rattle.printing.specs.PrintedTexts.{lines_text}

-- units that are no brackets
abbrev pub plain_units : List Class → List BidiUnit
plain_units classes = map (λ c. record { class = c; bracket = No }) classes

-- < and > are each other's mirrored characters, and LF is that of ;
abbrev pub images_of_three : ℕ → Option ℕ
images_of_three c = if c == 60 then Some 62 else if c == 62 then Some 60 else if c == 59 then Some 10 else None

-- what is printed of a text with these classes and breaks
abbrev pub printed_with : List ℕ → List Class → Direction → List ℕ → List ℕ
printed_with chars classes direction breaks = lines_text images_of_three chars (plain_units classes) direction breaks

-- the same, without columns
abbrev pub printed_whole : List ℕ → List Class → Direction → List ℕ
printed_whole chars classes direction = printed_with chars classes direction []

-- the same, in columns
abbrev pub printed_in : ℕ → List ℕ → List Class → Direction → List ℕ
printed_in columns chars classes direction =
    printed_with chars classes direction (column_breaks_of (plain_units classes) columns)

-- a line breaks after two positions, so the white space takes the paragraph's level
pub two_columns : printed_in 2 (1488 ∷ 32 ∷ 1489 ∷ []) (R ∷ WS ∷ R ∷ []) Ltr ≡ 215 ∷ 144 ∷ 32 ∷ 10 ∷ 215 ∷ 145 ∷ 10 ∷ []
unfolding layouts_compute encode_utf8
two_columns = refl

-- from left to right, with the mirrored character
pub mirrored_in_a_line : printed_whole (1488 ∷ 60 ∷ 1489 ∷ []) (R ∷ ON ∷ R ∷ []) Auto ≡ 215 ∷ 145 ∷ 62 ∷ 215 ∷ 144 ∷
    10 ∷ []
unfolding layouts_compute encode_utf8
mirrored_in_a_line = refl

-- the second paragraph's columns are counted from its start
pub columns_of_each_paragraph : printed_in 2 (97 ∷ 98 ∷ 10 ∷ 99 ∷ 100 ∷ 101 ∷ []) (L ∷ L ∷ B ∷ L ∷ L ∷ L ∷ []) Auto ≡
    codes "ab\ncd\ne\n"
unfolding layouts_compute encode_utf8
columns_of_each_paragraph = refl

-- removed positions count
pub removed_count : printed_in 2 (8234 ∷ 97 ∷ 8236 ∷ 98 ∷ []) (LRE ∷ L ∷ PDF ∷ L ∷ []) Ltr ≡ codes "a\nb\n"
unfolding layouts_compute encode_utf8
removed_count = refl

-- a line with only removed positions is empty
pub removed_alone : printed_whole (8234 ∷ 8236 ∷ []) (LRE ∷ PDF ∷ []) Rtl ≡ 10 ∷ []
unfolding layouts_compute encode_utf8
removed_alone = refl

-- a position whose mirrored character is a separator is not a separator
pub shown_by_a_separator : printed_whole (1488 ∷ 59 ∷ []) (R ∷ ON ∷ []) Auto ≡ 10 ∷ 215 ∷ 144 ∷ 10 ∷ []
unfolding layouts_compute encode_utf8
shown_by_a_separator = refl

-- an empty text has no line
pub nothing : printed_in 1 [] [] Auto ≡ []
unfolding layouts_compute encode_utf8
nothing = refl
