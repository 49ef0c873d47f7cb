-- P2, P3: if no position is in an isolate, the side of the first strong class gives the level.
use Rattle.std.proofs.Common.{◌≡◌, ℕ, Option, Some, None, List, refl}
use Rattle.std.specs.Prelude.{find}
use Rattle.units.specs.Classes.{is_strong, is_right_to_left}
use Rattle.units.specs.declared.class.Class.{Class}
use Rattle.units.specs.declared.level.Direction.{Direction}
use Rattle.units.specs.declared.level.Direction.TheVariants.{Auto, Ltr, Rtl, AutoRtl}
use Rattle.explicit.specs.SideLevels.{level_by_side, level_under}
use Rattle.explicit.specs.Flat.{flat_para_level, level_by_strong}
use Rattle.paragraph.specs.FirstSides.{side_by}
use Rattle.explicit.proofs.StrongSides.LevelUnder.{level_of_side}

by_strong : (o : Option Class) (otherwise : ℕ) → level_by_side (side_by o) otherwise ≡ level_by_strong otherwise o
by_strong None otherwise = refl
by_strong (Some c) otherwise = level_of_side (is_right_to_left c) otherwise

pub level_under-flat : (cs : List Class) (direction : Direction) →
    level_under direction (side_by (find is_strong cs)) ≡ flat_para_level cs direction
level_under-flat cs Auto = by_strong (find is_strong cs) 0
level_under-flat cs Ltr = refl
level_under-flat cs Rtl = refl
level_under-flat cs AutoRtl = by_strong (find is_strong cs) 1
