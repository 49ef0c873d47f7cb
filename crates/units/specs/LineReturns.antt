-- What a line splitter that represents a byte list returns.
use Rattle.std.specs.Prelude.{◌≡◌, ℕ, ◌+◌, ◌<◌, ◌≤◌, List, [], ◌∷◌, ◌++◌, length, take, Option, None, Some, ◌⊎◌}
use Rattle.std.specs.Borrow.{Bor}
use Rattle.units.specs.Text.{longest_line}
use Rattle.units.specs.Lines.{HasNoFeed, EndsAtFeed, CutsInto, IsTooLongAfter, saturated, ended_lines}
use Rattle.units.specs.declared.line_cut.Cut.{Cut}
use Rattle.units.specs.declared.line_cut.Cut.TheVariants.{More, Line, TooLong}

-- the cut that is returned for a piece of which this number of bytes was used, after these bytes
abbrev pub ReturnsPiece : List ℕ → List ℕ → ℕ → Cut → Type 0
ReturnsPiece bytes piece used More =
    HasNoFeed piece × (used ≡ length piece) × (ended_lines (bytes ++ take used piece) ≡ ended_lines bytes)
    × ((lines : List (List ℕ)) × (rest : List ℕ) × CutsInto (bytes ++ piece) lines rest)
ReturnsPiece bytes piece used (Line number text) =
    EndsAtFeed used piece × (ended_lines (bytes ++ take used piece) ≡ ended_lines bytes ++ text.now ∷ [])
    × ((lines : List (List ℕ)) × CutsInto (bytes ++ take used piece) (lines ++ text.now ∷ []) []
    × (number ≡ saturated (length lines + 1)))
ReturnsPiece bytes piece used (TooLong number) =
    (lines : List (List ℕ)) × IsTooLongAfter (bytes ++ take used piece) lines × (number ≡ saturated (length lines + 1))

-- the last line, if it has a byte and no line feed, and no line is over-long
abbrev pub Finishes : List ℕ → Option (ℕ × Bor (List ℕ)) → Type 0
Finishes bytes None =
    ((lines : List (List ℕ)) × CutsInto bytes lines []) ⊎ ((lines : List (List ℕ)) × IsTooLongAfter bytes lines)
Finishes bytes (Some last) =
    (0 < length last.1.now)
    × ((lines : List (List ℕ)) × CutsInto bytes lines last.1.now × (last.0 ≡ saturated (length lines + 1)))

-- the line that a cut ends is not over-long
abbrev pub CutIsShort : Cut → Type 0
CutIsShort More = Unit {0}
CutIsShort (Line number text) = length text.now ≤ longest_line
CutIsShort (TooLong number) = Unit {0}
