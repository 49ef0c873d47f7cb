-- A flat paragraph by the few units of it that are resolved.
use Rattle.std.specs.Prelude.{Option, None, ℕ, ◌≡◌, if◌then◌else◌, List, [], ◌∷◌}
use Rattle.units.specs.Layout.{resolved_levels}
use Rattle.units.specs.Limits.{LimitsOf}
use Rattle.units.specs.Runs.{direction_of}
use Rattle.units.specs.declared.bracket.Unit.{Unit as BidiUnit}
use Rattle.compress.specs.Remaining.{stays, remaining_units}
use Rattle.compress.specs.Spread.{spread}
use Rattle.compress.specs.Squeeze.{Stack, squeezed, units_onto, counts_onto}

abbrev pub head_of : List (Option ℕ) → Option ℕ
head_of [] = None
head_of (l ∷ ls) = l

abbrev pub tail_of : List (Option ℕ) → List (Option ℕ)
tail_of [] = []
tail_of (l ∷ ls) = ls

-- these levels, in turn, for the units that remain, and none for the others
abbrev pub placed : List BidiUnit → List (Option ℕ) → List (Option ℕ)
placed [] ls = []
placed (u ∷ us) ls = if stays u then head_of ls ∷ placed us (tail_of ls) else None ∷ placed us ls

-- what is chosen of the paragraph at this level, the last unit first
abbrev pub chosen_of : List BidiUnit → ℕ → Stack
chosen_of us para_level = squeezed (direction_of para_level) (direction_of para_level) [] (remaining_units us)

-- the units that are resolved in the place of the paragraph, and for how many of the remaining ones each counts
abbrev pub few_units : List BidiUnit → ℕ → List BidiUnit
few_units us para_level = units_onto (chosen_of us para_level) []

abbrev pub few_counts : List BidiUnit → ℕ → List ℕ
few_counts us para_level = counts_onto (chosen_of us para_level) []

-- X1 to I2: the levels of the paragraph are those of the few, each as often as it counts
abbrev pub ResolvesByFew : LimitsOf → List BidiUnit → ℕ → Type 0
ResolvesByFew limits us para_level =
    resolved_levels limits us para_level
    ≡ placed us (spread (few_counts us para_level) (resolved_levels limits (few_units us para_level) para_level))
