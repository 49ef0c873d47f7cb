-- The level that the side of the first strong class gives a paragraph (P3).
use Rattle.std.specs.Prelude.{ℕ}
use Rattle.units.specs.declared.level.Direction.{Direction}
use Rattle.units.specs.declared.level.Direction.TheVariants.{Auto, Ltr, Rtl, AutoRtl}
use Rattle.explicit.specs.declared.side.Side.{Side}
use Rattle.explicit.specs.declared.side.Side.TheVariants.{Unknown, LeftToRight, RightToLeft}

-- the level of a side, or this level if there is no strong class
abbrev pub level_by_side : Side → ℕ → ℕ
level_by_side Unknown otherwise = otherwise
level_by_side LeftToRight otherwise = 0
level_by_side RightToLeft otherwise = 1

-- P3: the level under a direction, from the side of the first strong class outside of all isolates
abbrev pub level_under : Direction → Side → ℕ
level_under Auto side = level_by_side side 0
level_under Ltr side = 0
level_under Rtl side = 1
level_under AutoRtl side = level_by_side side 1
