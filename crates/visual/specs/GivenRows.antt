-- L1 and L2 for given levels, worked by hand.
use Rattle.std.specs.Prelude.{◌≡◌, [], ◌∷◌, refl}
use Rattle.units.specs.Reordering.{line_order}
use Rattle.units.specs.declared.class.Class.TheVariants.{L, R, BN, S, WS, LRI, RLE, PDF}
use Rattle.visual.specs.GivenLevels.{all_present, levels_reset_in}

-- a Hebrew letter, a soft hyphen and a space before a tab, then a letter, a space and a PDF at the line's end
pub before_tab : levels_reset_in (R ∷ BN ∷ WS ∷ S ∷ R ∷ WS ∷ PDF ∷ []) 0 (1 ∷ 1 ∷ 1 ∷ 1 ∷ 1 ∷ 1 ∷ 1 ∷ []) ≡
    1 ∷ 0 ∷ 0 ∷ 0 ∷ 1 ∷ 0 ∷ 0 ∷ []
unfolding levels_reset_in
before_tab = refl

-- spaces and a removed position between letters are unchanged
pub between : levels_reset_in (L ∷ WS ∷ RLE ∷ LRI ∷ L ∷ []) 1 (2 ∷ 2 ∷ 2 ∷ 2 ∷ 2 ∷ []) ≡ 2 ∷ 2 ∷ 2 ∷ 2 ∷ 2 ∷ []
unfolding levels_reset_in
between = refl

-- two digits in Hebrew text, in an English line
pub digits : line_order (all_present (0 ∷ 1 ∷ 2 ∷ 2 ∷ 1 ∷ 0 ∷ [])) 0 6 ≡ 0 ∷ 4 ∷ 2 ∷ 3 ∷ 1 ∷ 5 ∷ []
unfolding line_order
digits = refl
