-- Worked rows of limits (BD2, BD16).
use Rattle.std.specs.Prelude.{◌≡◌, List, [], ◌∷◌, Some, None, map, refl}
use Rattle.units.specs.Limits.{standard}
use Rattle.units.specs.RowWords.{plain, opens, shuts, levels, closers_by, limited, laid_out_by, sequences_compute, layouts_compute}
use Rattle.units.specs.declared.class.Class.TheVariants.{L, R, LRE, RLE, RLI}
use Rattle.units.specs.declared.bracket.Unit.{Unit as BidiUnit}

-- at depth 1 the LRE, which asks for level 2, overflows
pub depth_of_one : laid_out_by (limited 1 63) (map plain (RLE ∷ LRE ∷ R ∷ []))
    ≡ (None ∷ None ∷ Some 1 ∷ [], 2 ∷ [])
unfolding layouts_compute
depth_of_one = refl

-- by the standard it is entered
pub depth_of_the_standard : laid_out_by standard (map plain (RLE ∷ LRE ∷ R ∷ []))
    ≡ (None ∷ None ∷ Some 3 ∷ [], 2 ∷ [])
unfolding layouts_compute
depth_of_the_standard = refl

-- at depth 2 the LRE is entered, and the RLI in it overflows: a level may equal the depth
pub depth_of_two : laid_out_by (limited 2 63) (map plain (RLE ∷ LRE ∷ RLI ∷ L ∷ []))
    ≡ (None ∷ None ∷ Some 2 ∷ Some 2 ∷ [], 2 ∷ 3 ∷ [])
unfolding layouts_compute
depth_of_two = refl

-- L, and R between brackets, and R: the pair is at level 0, or without it the closing bracket is at level 1
abbrev pub bracketed : List BidiUnit
bracketed = plain L ∷ opens 1 ∷ plain R ∷ shuts 1 ∷ plain R ∷ []

-- if no bracket may be open, no pair counts
pub no_brackets : laid_out_by (limited 125 0) bracketed
    ≡ (levels (0 ∷ 0 ∷ 1 ∷ 1 ∷ 1 ∷ []), 0 ∷ 1 ∷ 4 ∷ 3 ∷ 2 ∷ [])
unfolding layouts_compute
no_brackets = refl

-- if one may be open, it counts
pub one_bracket : laid_out_by (limited 125 1) bracketed
    ≡ (levels (0 ∷ 0 ∷ 1 ∷ 0 ∷ 1 ∷ []), 0 ∷ 1 ∷ 2 ∷ 3 ∷ 4 ∷ [])
unfolding layouts_compute
one_bracket = refl

-- if one may be open, the second that opens inside it is the stop, and no pair that ends after it counts
pub second_bracket : closers_by 1 (opens 1 ∷ shuts 1 ∷ opens 1 ∷ opens 1 ∷ shuts 1 ∷ shuts 1 ∷ opens 1 ∷ shuts 1 ∷ [])
    ≡ Some 1 ∷ None ∷ None ∷ None ∷ None ∷ None ∷ None ∷ None ∷ []
unfolding sequences_compute
second_bracket = refl
