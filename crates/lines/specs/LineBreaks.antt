-- Breaks of a text into lines.
use Rattle.std.specs.Prelude.{ℕ, ◌<◌, ◌≤◌, ◌-◌, ◌≡◌, ◌⊎◌, List, length, slice_index}
use Rattle.lines.specs.declared.breaks.BreakFault.{BreakFault}
use Rattle.lines.specs.declared.breaks.BreakFault.TheVariants.{OutOfRange, NotRising}

-- the breaks of a text with this length
pub record BreaksView : Type 0 where
  pub positions : List ℕ
  pub len : ℕ

-- the break at the index is inside the text
pub record IsInside (at : List ℕ) (len index : ℕ) : Type 0 where
  pub after_start : 0 < slice_index at index
  pub before_end : slice_index at index < len

-- the break at the index is above the previous one, if there is one
abbrev pub IsAboveTheOneBefore : List ℕ → ℕ → Type 0
IsAboveTheOneBefore at index = 0 < index → slice_index at (index - 1) < slice_index at index

-- all breaks before the index are valid
pub record AreBreaksBelow (at : List ℕ) (len end : ℕ) : Type 0 where
  pub inside : (index : ℕ) → index < end → IsInside at len index
  pub rising : (index : ℕ) → index < end → IsAboveTheOneBefore at index

-- all breaks are valid: they rise, and are inside the text
abbrev pub AreBreaks : List ℕ → ℕ → Type 0
AreBreaks at len = AreBreaksBelow at len (length at)

-- the breaks of a text of this length
abbrev pub AreBreaksOf : List ℕ → ℕ → BreaksView → Type 0
AreBreaksOf at len breaks = (breaks ≡ record { positions = at; len = len }) × AreBreaks at len

-- the error is that of the first bad index; out of range is checked first
abbrev pub IsFirstBreakFault : List ℕ → ℕ → BreakFault → Type 0
IsFirstBreakFault at len (OutOfRange index) =
    (index < length at) × AreBreaksBelow at len index × ((slice_index at index ≡ 0) ⊎ (len ≤ slice_index at index))
IsFirstBreakFault at len (NotRising index) =
    (index < length at) × AreBreaksBelow at len index × IsInside at len index × (0 < index) ×
    (slice_index at index ≤ slice_index at (index - 1))
