-- Worked rows of neutral types (N1, N2).
use Rattle.std.specs.Prelude.{◌≡◌, [], ◌∷◌, Some, map, refl}
use Rattle.units.specs.RowWords.{plain, laid_out, layouts_compute}
use Rattle.units.specs.declared.class.Class.TheVariants.{L, R, ON}
use Rattle.units.specs.declared.level.Direction.TheVariants.{Ltr, Rtl}

-- neutrals between two R become R
pub one_direction : laid_out (map plain (R ∷ ON ∷ R ∷ [])) Ltr
    ≡ (Some 1 ∷ Some 1 ∷ Some 1 ∷ [], 2 ∷ 1 ∷ 0 ∷ [])
unfolding layouts_compute
one_direction = refl

-- between two directions they take the embedding direction
pub two_directions : laid_out (map plain (L ∷ ON ∷ R ∷ [])) Rtl
    ≡ (Some 2 ∷ Some 1 ∷ Some 1 ∷ [], 2 ∷ 1 ∷ 0 ∷ [])
unfolding layouts_compute
two_directions = refl
