-- Worked rows of paragraphs and their levels (P1 to P3).
use Rattle.std.specs.Prelude.{◌≡◌, [], ◌∷◌, Some, map, refl}
use Rattle.units.specs.RowWords.{plain, laid_out, layouts_compute}
use Rattle.units.specs.declared.class.Class.TheVariants.{L, R, B, ON, FSI, PDI}
use Rattle.units.specs.declared.level.Direction.TheVariants.{Auto, Rtl, AutoRtl}

-- each paragraph has its own level
pub two_paragraphs : laid_out (map plain (R ∷ B ∷ L ∷ [])) Auto
    ≡ (Some 1 ∷ Some 1 ∷ Some 0 ∷ [], 1 ∷ 0 ∷ 2 ∷ [])
unfolding layouts_compute
two_paragraphs = refl

-- each separator ends a paragraph
pub empty_paragraphs : laid_out (map plain (B ∷ B ∷ B ∷ [])) Rtl
    ≡ (Some 1 ∷ Some 1 ∷ Some 1 ∷ [], 0 ∷ 1 ∷ 2 ∷ [])
unfolding layouts_compute
empty_paragraphs = refl

-- without a strong class the paragraph is at level 0 under Auto, and at 1 under AutoRtl
pub neutral_auto : laid_out (plain ON ∷ []) Auto
    ≡ (Some 0 ∷ [], 0 ∷ [])
unfolding layouts_compute
neutral_auto = refl

pub neutral_auto_rtl : laid_out (plain ON ∷ []) AutoRtl
    ≡ (Some 1 ∷ [], 0 ∷ [])
unfolding layouts_compute
neutral_auto_rtl = refl

-- a strong class outside of isolates decides under AutoRtl as under Auto
pub strong_auto_rtl : laid_out (map plain (ON ∷ L ∷ R ∷ [])) AutoRtl
    ≡ (Some 0 ∷ Some 0 ∷ Some 1 ∷ [], 0 ∷ 1 ∷ 2 ∷ [])
unfolding layouts_compute
strong_auto_rtl = refl

-- an isolate's content decides nothing there, and an FSI without a strong class acts as LRI
pub isolate_auto_rtl : laid_out (map plain (FSI ∷ ON ∷ PDI ∷ [])) AutoRtl
    ≡ (Some 1 ∷ Some 2 ∷ Some 1 ∷ [], 2 ∷ 1 ∷ 0 ∷ [])
unfolding layouts_compute
isolate_auto_rtl = refl
