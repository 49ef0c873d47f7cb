-- Breaks at offsets, and how they are rejected. Characters are given as their number and the offset at which each
-- begins; the offset after the last one is the text's end.
use Rattle.std.specs.Prelude.{ℕ, ◌≡◌, ◌<◌, ◌≤◌, List, length, slice_index}
use Rattle.lines.specs.LineBreaks.{AreBreaks, IsFirstBreakFault}
use Rattle.room.specs.declared.fault.LayoutFault.{LayoutFault}
use Rattle.room.specs.declared.fault.LayoutFault.TheVariants.{Break, BreakInside}

-- a character begins at the offset, or the text ends there
pub record IsBoundary (offset : ℕ → ℕ) (count at : ℕ) : Type 0 where
  pub index : ℕ
  pub inside : index ≤ count
  pub begins : offset index ≡ at

-- the break at the index is the first that is inside a character
pub record IsFirstInside (offset : ℕ → ℕ) (count : ℕ) (breaks : List ℕ) (index : ℕ) : Type 0 where
  pub inside : index < length breaks
  pub between : IsBoundary offset count (slice_index breaks index) → ⊥
  pub earlier : (i : ℕ) → i < index → IsBoundary offset count (slice_index breaks i)

-- breaks of a text of so many units are rejected for this reason: the first one that is out of range or not rising;
-- only if there is none, the first one that is inside a character
abbrev pub RejectsBreaks : (ℕ → ℕ) → ℕ → ℕ → List ℕ → LayoutFault → Type 0
RejectsBreaks offset count size breaks (Break fault) = IsFirstBreakFault breaks size fault
RejectsBreaks offset count size breaks (BreakInside index) = AreBreaks breaks size ×
    IsFirstInside offset count breaks index
RejectsBreaks offset count size breaks _ = ⊥
