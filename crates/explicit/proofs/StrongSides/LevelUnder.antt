-- P3: the level by the side of the first strong class is the paragraph's level.
use Rattle.std.proofs.Common.{◌≡◌, ℕ, Bool, true, false, Option, Some, None, List, refl, cond}
use Rattle.std.specs.Prelude.{◌||◌, is_none}
use Rattle.units.specs.Classes.{class_at, is_right_to_left}
use Rattle.units.specs.Isolates.{first_strong, begins_right_to_left, para_level_of}
use Rattle.units.specs.declared.class.Class.{Class}
use Rattle.units.specs.declared.level.Direction.{Direction}
use Rattle.units.specs.declared.level.Direction.TheVariants.{Auto, Ltr, Rtl, AutoRtl}
use Rattle.explicit.specs.declared.side.Side.TheVariants.{LeftToRight, RightToLeft}
use Rattle.explicit.specs.SideLevels.{level_by_side, level_under}
use Rattle.explicit.specs.Sides.{side_at}

pub level_of_side : (b : Bool) (otherwise : ℕ) → level_by_side (cond b RightToLeft LeftToRight) otherwise ≡ cond b 1 0
level_of_side true otherwise = refl
level_of_side false otherwise = refl

by_side : (cs : List Class) (o : Option ℕ) → level_by_side (side_at cs o) 0 ≡ cond (begins_right_to_left cs o) 1 0
by_side cs None = refl
by_side cs (Some p) = level_of_side (is_right_to_left (class_at cs p)) 0

by_side_or_one : (cs : List Class) (o : Option ℕ) →
    level_by_side (side_at cs o) 1 ≡ cond (is_none o || begins_right_to_left cs o) 1 0
by_side_or_one cs None = refl
by_side_or_one cs (Some p) = level_of_side (is_right_to_left (class_at cs p)) 1

pub level_under-is : (cs : List Class) (direction : Direction) →
    level_under direction (side_at cs (first_strong cs None)) ≡ para_level_of cs direction
unfolding para_level_of
level_under-is cs Auto = by_side cs (first_strong cs None)
level_under-is cs Ltr = refl
level_under-is cs Rtl = refl
level_under-is cs AutoRtl = by_side_or_one cs (first_strong cs None)
