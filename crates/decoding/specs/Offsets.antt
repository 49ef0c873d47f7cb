-- A text as the characters that its code units spell, and the offsets of code units at which they begin.
use Rattle.std.specs.Prelude.{ℕ, ◌≡◌, ◌<◌, ◌≤◌, ◌+◌, List, length, map, take, slice_index}
use Rattle.std.specs.List.{All, sum_by}

-- a character, and how many code units of the text spell it
pub record Spelled : Type 0 where
  pub code : ℕ
  pub width : ℕ

-- the characters of a text
abbrev pub codes_of : List Spelled → List ℕ
codes_of text = map (λ s. s.code) text

-- how many code units a text has
abbrev pub code_units : List Spelled → ℕ
code_units text = sum_by (λ s. s.width) text

-- the offset of the character with the index k, or of the text's end: the number of code units before it
abbrev pub offset_of : List Spelled → ℕ → ℕ
offset_of text k = code_units (take k text)

-- the list has the offset of each character, and after the last one the offset of the text's end
abbrev pub AreStarts : List Spelled → List ℕ → Type 0
AreStarts text starts = (k : ℕ) → k ≤ length text → slice_index starts k ≡ offset_of text k

-- each character is spelled by at least one code unit
abbrev pub IsSpelledOut : List Spelled → Type 0
IsSpelledOut text = All (λ s. 0 < s.width) text

-- the code unit at the offset is one of those that spell the character with the index k
pub record IsOf (text : List Spelled) (at k : ℕ) : Type 0 where
  pub inside : k < length text
  pub from : offset_of text k ≤ at
  pub before : at < offset_of text (k + 1)
