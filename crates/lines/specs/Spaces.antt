-- White space at the end of a line (L1), in a pass from the end.
use Rattle.std.specs.Prelude.{Bool, false, Option, Some, None, ℕ, ◌≡◌, ◌<◌, ◌≤◌, ◌||◌, ◌&&◌, List, map, slice_index_or}
use Rattle.units.specs.declared.bracket.Unit.{Unit as BidiUnit}
use Rattle.std.specs.List.{list_any}
use Rattle.units.specs.declared.class.Class.{Class}
use Rattle.units.specs.declared.class.Class.TheVariants.{S}
use Rattle.units.specs.declared.level.ParaLevel.{ParaLevel}
use Rattle.units.specs.Classes.{class_at, classes_of, is_removed, is_line_separator}
use Rattle.units.specs.Isolates.{level_of_para}
use Rattle.units.specs.Reordering.{after_resets, is_trailing_space, para_level_at}
use Rattle.paragraph.specs.ClassSets.{is_class}

-- L1: spaces before a position of this class are reset; the flag says whether spaces after it are
abbrev pub resets_before : Class → Bool → Bool
resets_before c later = is_line_separator c || ((is_removed c || is_trailing_space c) && later)

-- L1: no class at the positions from start up to end separates lines
pub record SeparateNone (own : List Class) (start end : ℕ) : Type 0 where
  pub none : (p : ℕ) → start ≤ p → p < end → is_line_separator (class_at own p) ≡ false

-- L1: the search from the end passes no separator on its way back to the position, which is not before the start
pub record PassesBack (own : List Class) (start end position : ℕ) : Type 0 where
  pub from_start : start ≤ position
  pub to_end : position ≤ end
  pub passed : SeparateNone own position end

-- L1: whether a unit of the text is a segment separator
abbrev pub has_segments : List BidiUnit → Bool
has_segments text = list_any (is_class S) (classes_of text)

-- L1: no unit is one
abbrev pub HasNoSegments : List BidiUnit → Type 0
HasNoSegments text = has_segments text ≡ false

-- L1: each remaining position has the level of its paragraph
pub record AreAtParas (own : List Class) (paras : List ℕ) (levels : List (Option ℕ)) : Type 0 where
  pub same : (p v : ℕ) → slice_index_or levels p None ≡ Some v → v ≡ para_level_at own paras p

-- this is so for a text, given its units and the levels of its paragraphs
abbrev pub StaysAtParas : List BidiUnit → List ParaLevel → List (Option ℕ) → Type 0
StaysAtParas text paras levels = AreAtParas (classes_of text) (map level_of_para paras) levels

-- L1: the levels of a text after resets, from its units, its breaks and the levels of its paragraphs
abbrev pub levels_reset : List BidiUnit → List ℕ → List ParaLevel → List (Option ℕ) → List (Option ℕ)
levels_reset text breaks paras levels = after_resets (classes_of text) breaks (map level_of_para paras) levels
