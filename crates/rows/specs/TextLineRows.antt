-- Examples of rows: lines of texts, worked by hand.
use Rattle.std.specs.Prelude.{◌≡◌, [], ◌∷◌, Some, None, refl, replicate}
use Rattle.std.specs.List.{position_from}
use Rattle.rows.specs.TextLines.{is_long, row_lines, text_lines}

-- a line ends at LF, which is no part of the line; a CR before LF is part of it
pub two_lines : row_lines (97 ∷ 13 ∷ 10 ∷ 98 ∷ []) ≡ (97 ∷ 13 ∷ []) ∷ (98 ∷ []) ∷ []
two_lines = refl

-- the last line needs no LF, and an LF at the text's end begins no further line with a character
pub ended_line : row_lines (97 ∷ 10 ∷ []) ≡ (97 ∷ []) ∷ []
ended_line = refl

-- lines without a character make no row, but are counted
pub empty_lines : row_lines (10 ∷ 10 ∷ 97 ∷ []) ≡ (97 ∷ []) ∷ []
empty_lines = refl

pub lines_counted : text_lines (10 ∷ 10 ∷ 97 ∷ []) ≡ [] ∷ [] ∷ (97 ∷ []) ∷ []
lines_counted = refl

pub no_line : row_lines [] ≡ []
no_line = refl

-- 4,095 characters fit, and one more does not; lines are numbered from 1
pub second_longer : position_from is_long 1 (replicate 4095 97 ∷ replicate 4096 97 ∷ []) ≡ Some 2
second_longer = refl

pub none_longer : position_from is_long 1 (replicate 4095 97 ∷ [] ∷ []) ≡ None
none_longer = refl
