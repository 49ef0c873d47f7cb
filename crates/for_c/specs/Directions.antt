-- The numbers of directions.
use Rattle.std.specs.Prelude.{ℕ, Option, List, [], ◌∷◌}
use Rattle.std.specs.List.{slice_get}
use Rattle.units.specs.declared.level.Direction.{Direction}
use Rattle.units.specs.declared.level.Direction.TheVariants.{Auto, Ltr, Rtl, AutoRtl}

-- the directions in the order of their numbers, from 0
abbrev pub numbered_directions : List Direction
numbered_directions = Ltr ∷ Rtl ∷ Auto ∷ AutoRtl ∷ []

-- the direction with this number, if there is one
abbrev pub direction_numbered : ℕ → Option Direction
direction_numbered number = slice_get numbered_directions number

-- the number of a direction
abbrev pub direction_number : Direction → ℕ
direction_number Ltr = 0
direction_number Rtl = 1
direction_number Auto = 2
direction_number AutoRtl = 3
