-- Levels of removed positions, worked by hand.
use Rattle.std.specs.Prelude.{◌≡◌, Option, None, Some, ℕ, List, [], ◌∷◌, map, refl}
use Rattle.units.specs.Positions.{positions_from}
use Rattle.visual.specs.EffectiveLevelRanges.{effective_level}

-- the levels of all positions of a line that begins a text
abbrev pub all_levels : List (Option ℕ) → ℕ → ℕ → List ℕ
all_levels levels para_level end = map (effective_level levels para_level end) (positions_from 0 end)

-- a joiner between a Hebrew letter and a space, in a paragraph of level 0, has the level of the space
pub joiner : all_levels (Some 1 ∷ None ∷ Some 0 ∷ Some 0 ∷ []) 0 4 ≡ 1 ∷ 0 ∷ 0 ∷ 0 ∷ []
unfolding effective_level
joiner = refl

-- a byte order mark before a Hebrew letter has the level of the letter
pub byte_order : all_levels (None ∷ Some 1 ∷ Some 0 ∷ []) 0 3 ≡ 1 ∷ 1 ∷ 0 ∷ []
unfolding effective_level
byte_order = refl

-- a joiner after a Hebrew letter at the end of the line has the level of the paragraph
pub at_the_end : all_levels (Some 0 ∷ Some 1 ∷ None ∷ []) 0 3 ≡ 0 ∷ 1 ∷ 0 ∷ []
unfolding effective_level
at_the_end = refl

-- so has one that a break separates from the next letter, because that letter is in another line
pub before_a_break : all_levels (Some 2 ∷ None ∷ Some 2 ∷ []) 1 2 ≡ 2 ∷ 1 ∷ []
unfolding effective_level
before_a_break = refl

-- so have all positions if none remains
pub nothing : all_levels (None ∷ None ∷ []) 1 2 ≡ 1 ∷ 1 ∷ []
unfolding effective_level
nothing = refl
