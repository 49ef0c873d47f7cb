-- Worked rows of lines (L1, L2), with breaks and without.
use Rattle.std.specs.Prelude.{◌≡◌, [], ◌∷◌, Some, None, map, refl}
use Rattle.units.specs.Limits.{standard}
use Rattle.units.specs.Layout.{layout_of}
use Rattle.units.specs.RowWords.{plain, levels, laid_out, line, layouts_compute}
use Rattle.units.specs.declared.class.Class.TheVariants.{L, R, EN, B, WS, RLO}
use Rattle.units.specs.declared.level.Direction.TheVariants.{Auto, Ltr}

-- a space at the end of the line is reset because of its own class, although an override made it R
pub reset_by_own_class : laid_out (map plain (L ∷ RLO ∷ R ∷ WS ∷ [])) Ltr
    ≡ (Some 0 ∷ None ∷ Some 1 ∷ Some 0 ∷ [], 0 ∷ 2 ∷ 3 ∷ [])
unfolding layouts_compute
reset_by_own_class = refl

-- an empty text has no paragraph and no line
pub empty_text : layout_of standard (map plain ([])) Auto ([])
    ≡ record { paras = []; levels = []; lines = [] }
unfolding layouts_compute
empty_text = refl

-- without a break
pub unbroken : layout_of standard (map plain (R ∷ WS ∷ R ∷ [])) Ltr ([])
    ≡ record { paras = 0 ∷ []; levels = Some 1 ∷ Some 1 ∷ Some 1 ∷ []; lines = line 0 3 (2 ∷ 1 ∷ 0 ∷ []) ∷ [] }
unfolding layouts_compute
unbroken = refl

-- a break after the space: it is reset
pub broken_after_space : layout_of standard (map plain (R ∷ WS ∷ R ∷ [])) Ltr (2 ∷ [])
    ≡ record {
      paras = 0 ∷ [];
      levels = Some 1 ∷ Some 0 ∷ Some 1 ∷ [];
      lines = line 0 2 (0 ∷ 1 ∷ []) ∷ line 2 3 (2 ∷ []) ∷ [];
    }
unfolding layouts_compute
broken_after_space = refl

-- a break where a paragraph begins adds nothing
pub broken_at_paragraph : layout_of standard (map plain (R ∷ EN ∷ B ∷ L ∷ [])) Auto (3 ∷ [])
    ≡ record {
      paras = 1 ∷ 0 ∷ [];
      levels = Some 1 ∷ Some 2 ∷ Some 1 ∷ Some 0 ∷ [];
      lines = line 0 3 (2 ∷ 1 ∷ 0 ∷ []) ∷ line 3 4 (3 ∷ []) ∷ [];
    }
unfolding layouts_compute
broken_at_paragraph = refl

-- a break inside the first paragraph
pub broken_in_paragraph : layout_of standard (map plain (R ∷ EN ∷ B ∷ L ∷ [])) Auto (1 ∷ [])
    ≡ record {
      paras = 1 ∷ 0 ∷ [];
      levels = Some 1 ∷ Some 2 ∷ Some 1 ∷ Some 0 ∷ [];
      lines = line 0 1 (0 ∷ []) ∷ line 1 3 (2 ∷ 1 ∷ []) ∷ line 3 4 (3 ∷ []) ∷ [];
    }
unfolding layouts_compute
broken_in_paragraph = refl
