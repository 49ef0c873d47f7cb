-- The lines of a byte list: its cuttings at LF, as a relation, and as a function.
use Rattle.std.specs.Prelude.{◌≡◌, ◌≢◌, ℕ, ◌-◌, ◌+◌, ◌^◌, ◌<◌, ◌≤◌, min, List, [], ◌∷◌, ◌++◌, length, take, flat_map, slice_index, All, ◌⊎◌}
use Rattle.units.specs.Text.{longest_line, cut_at}

-- no byte is a line feed
abbrev pub HasNoFeed : List ℕ → Type 0
HasNoFeed bytes = All (λ x. x ≢ 10) bytes

-- the bytes used of a piece end with its first line feed
pub record EndsAtFeed (used : ℕ) (piece : List ℕ) : Type 0 where
  pub at : ℕ
  pub is : used ≡ at + 1
  pub before : HasNoFeed (take at piece)
  pub feed : slice_index piece at ≡ 10
  pub inside : at < length piece

-- the bytes used end no later than the piece's first line feed
abbrev pub EndsByFeed : ℕ → List ℕ → Type 0
EndsByFeed used piece = HasNoFeed (take (used - 1) piece)

-- the bytes used of a piece are those through its first line feed, or all if it has none
abbrev pub UsesOneLine : ℕ → List ℕ → Type 0
UsesOneLine used piece = EndsAtFeed used piece ⊎ (HasNoFeed piece × (used ≡ length piece))

-- a line and its line feed
abbrev pub ended : List ℕ → List ℕ
ended line = line ++ 10 ∷ []

-- a line that is not over-long
pub record IsLine (line : List ℕ) : Type 0 where
  pub feeds : HasNoFeed line
  pub short : length line ≤ longest_line

-- the bytes are these lines, each with its line feed, and then a line that has not ended; none is over-long
pub record CutsInto (bytes : List ℕ) (lines : List (List ℕ)) (rest : List ℕ) : Type 0 where
  pub whole : bytes ≡ flat_map ended lines ++ rest
  pub each : All IsLine lines
  pub partial : IsLine rest

-- after these lines the bytes have an over-long one
pub record IsTooLongAfter (bytes : List ℕ) (lines : List (List ℕ)) : Type 0 where
  pub long : List ℕ
  pub more : List ℕ
  pub whole : bytes ≡ (flat_map ended lines ++ long) ++ more
  pub each : All IsLine lines
  pub feeds : HasNoFeed long
  pub above : longest_line < length long

-- the greatest number that a count reaches
abbrev pub most_counted : ℕ
most_counted = 2 ^ 64 - 1

-- a number that stays at that limit instead of passing it
abbrev pub saturated : ℕ → ℕ
saturated n = min n most_counted

-- the number of the line after k lines: lines are numbered from 1
abbrev pub line_number : ℕ → ℕ
line_number k = saturated (k + 1)

-- the pieces between line feeds; the last one has not ended and may be empty
abbrev pub cut_lines : List ℕ → List (List ℕ)
cut_lines bytes = cut_at 10 bytes

-- a line and the lines after it, but for the last of these
abbrev pub but_last_from : List ℕ → List (List ℕ) → List (List ℕ)
but_last_from line [] = []
but_last_from line (next ∷ lines) = line ∷ but_last_from next lines

-- all but the last
abbrev pub but_last : List (List ℕ) → List (List ℕ)
but_last [] = []
but_last (line ∷ lines) = but_last_from line lines

-- the lines that have ended
abbrev pub ended_lines : List ℕ → List (List ℕ)
ended_lines bytes = but_last (cut_lines bytes)
