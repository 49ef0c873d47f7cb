-- Worked rows of mirror images (L4).
use Rattle.std.specs.Prelude.{Option, ℕ, ◌≡◌, ◌==◌, if◌then◌else◌, [], ◌∷◌, Some, None, refl}
use Rattle.units.specs.Reordering.{line_order, shown_of}

-- the images of 3C and 3E: each other
abbrev pub images : ℕ → Option ℕ
images c = if c == 60 then Some 62 else if c == 62 then Some 60 else None

-- at an odd level a character is shown by its image
pub mirrored : shown_of images (Some 1 ∷ Some 1 ∷ Some 1 ∷ []) (1488 ∷ 60 ∷ 1489 ∷ []) (2 ∷ 1 ∷ 0 ∷ [])
    ≡ 1489 ∷ 62 ∷ 1488 ∷ []
unfolding line_order
mirrored = refl

-- at an even level it is shown as it is
pub not_mirrored : shown_of images (Some 0 ∷ Some 0 ∷ Some 1 ∷ []) (97 ∷ 60 ∷ 1488 ∷ []) (0 ∷ 1 ∷ 2 ∷ [])
    ≡ 97 ∷ 60 ∷ 1488 ∷ []
unfolding line_order
not_mirrored = refl
