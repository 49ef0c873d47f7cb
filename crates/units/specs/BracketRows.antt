-- Worked rows of bracket pairs (BD14 to BD16) and paired brackets (N0).
use Rattle.std.specs.Prelude.{ℕ, ◌≡◌, List, [], ◌∷◌, ◌++◌, Some, None, refl, replicate, reverse}
use Rattle.units.specs.Positions.{positions_from}
use Rattle.units.specs.RowWords.{plain, opens, shuts, levels, levels_alone, closers_alone, laid_out, sequences_compute, layouts_compute}
use Rattle.units.specs.declared.class.Class.TheVariants.{L, R, NSM, LRE, LRO, PDF}
use Rattle.units.specs.declared.bracket.Unit.{Unit as BidiUnit}
use Rattle.units.specs.declared.level.Direction.TheVariants.{Ltr, Rtl}

-- a mark that follows a changed bracket takes its class
pub mark_follows : levels_alone 0 L (plain R ∷ opens 1 ∷ plain R ∷ shuts 1 ∷ plain NSM ∷ plain L ∷ [])
    ≡ 1 ∷ 1 ∷ 1 ∷ 1 ∷ 1 ∷ 0 ∷ []
unfolding sequences_compute
mark_follows = refl

-- both marks that follow a changed bracket take its class
pub marks_follow : (laid_out (plain R ∷ opens 1 ∷ plain R ∷ shuts 1 ∷ plain NSM ∷ plain NSM ∷ plain L ∷ []) Ltr).0
    ≡ Some 1 ∷ Some 1 ∷ Some 1 ∷ Some 1 ∷ Some 1 ∷ Some 1 ∷ Some 0 ∷ []
unfolding layouts_compute
marks_follow = refl

-- a mark that an override made L does not follow a bracket
pub overridden_mark_stays :
    (laid_out (plain LRE ∷ plain R ∷ opens 1 ∷ plain R ∷ shuts 1 ∷ plain PDF
    ∷ plain LRO ∷ plain NSM ∷ plain PDF ∷ plain PDF ∷ plain L ∷ []) Ltr).0
    ≡ None ∷ Some 3 ∷ Some 3 ∷ Some 3 ∷ Some 3 ∷ None ∷ None ∷ Some 2 ∷ None ∷ None ∷ Some 0 ∷ []
unfolding layouts_compute
overridden_mark_stays = refl

-- the outer pair first; its opener is then the nearest strong class before the inner one
pub outer_first : levels_alone 0 L (plain R ∷ opens 1 ∷ opens 1 ∷ plain R ∷ shuts 1 ∷ plain L ∷ shuts 1 ∷ [])
    ≡ 1 ∷ 0 ∷ 0 ∷ 1 ∷ 0 ∷ 0 ∷ 0 ∷ []
unfolding sequences_compute
outer_first = refl

-- the closers of two pairs, one in the other
pub outer_closers : closers_alone (plain R ∷ opens 1 ∷ opens 1 ∷ plain R ∷ shuts 1 ∷ plain L ∷ shuts 1 ∷ [])
    ≡ None ∷ Some 6 ∷ Some 4 ∷ None ∷ None ∷ None ∷ None ∷ []
unfolding sequences_compute
outer_closers = refl

-- a closing bracket without a match pops nothing
pub closer_alone : levels_alone 0 L (plain L ∷ opens 1 ∷ shuts 2 ∷ plain R ∷ shuts 1 ∷ plain R ∷ [])
    ≡ 0 ∷ 0 ∷ 0 ∷ 1 ∷ 0 ∷ 1 ∷ []
unfolding sequences_compute
closer_alone = refl

-- a closing bracket without a match leaves the open ones
pub closer_pops_nothing : laid_out (plain L ∷ opens 1 ∷ shuts 2 ∷ plain R ∷ shuts 1 ∷ plain R ∷ []) Ltr
    ≡ (Some 0 ∷ Some 0 ∷ Some 0 ∷ Some 1 ∷ Some 0 ∷ Some 1 ∷ [], 0 ∷ 1 ∷ 2 ∷ 3 ∷ 4 ∷ 5 ∷ [])
unfolding layouts_compute
closer_pops_nothing = refl

-- only the opposite direction is inside, and the context before is the opposite
pub opposite_inside : laid_out (plain R ∷ opens 1 ∷ plain L ∷ shuts 1 ∷ plain R ∷ []) Rtl
    ≡ (Some 1 ∷ Some 1 ∷ Some 2 ∷ Some 1 ∷ Some 1 ∷ [], 4 ∷ 3 ∷ 2 ∷ 1 ∷ 0 ∷ [])
unfolding layouts_compute
opposite_inside = refl

-- only the opposite direction is inside, and the context before is the embedding direction
pub embedding_before : laid_out (plain L ∷ opens 1 ∷ plain R ∷ shuts 1 ∷ []) Ltr
    ≡ (Some 0 ∷ Some 0 ∷ Some 1 ∷ Some 0 ∷ [], 0 ∷ 1 ∷ 2 ∷ 3 ∷ [])
unfolding layouts_compute
embedding_before = refl

-- brackets with one key pair
pub equivalent_brackets : laid_out (plain L ∷ opens 8 ∷ plain R ∷ shuts 8 ∷ plain R ∷ []) Ltr
    ≡ (Some 0 ∷ Some 0 ∷ Some 1 ∷ Some 0 ∷ Some 1 ∷ [], 0 ∷ 1 ∷ 2 ∷ 3 ∷ 4 ∷ [])
unfolding layouts_compute
equivalent_brackets = refl

-- brackets with two keys do not
pub brackets_apart : laid_out (plain L ∷ opens 8 ∷ plain R ∷ shuts 9 ∷ plain R ∷ []) Ltr
    ≡ (Some 0 ∷ Some 0 ∷ Some 1 ∷ Some 1 ∷ Some 1 ∷ [], 0 ∷ 1 ∷ 4 ∷ 3 ∷ 2 ∷ [])
unfolding layouts_compute
brackets_apart = refl

-- a pair, and then n nested pairs
abbrev pub deep : ℕ → List BidiUnit
deep n =
    (plain L ∷ opens 1 ∷ plain R ∷ shuts 1 ∷ plain R ∷ plain L ∷ [])
    ++ replicate n (opens 1) ++ (plain R ∷ []) ++ replicate n (shuts 1) ++ (plain R ∷ [])

-- 63 open brackets fit the limit
pub all_pair : laid_out (deep 63) Ltr
    ≡ (
      levels (0 ∷ 0 ∷ 1 ∷ 0 ∷ 1 ∷ 0 ∷ []) ++ replicate 63 (Some 0) ++ Some 1 ∷ replicate 63 (Some 0) ++ Some 1 ∷ [],
      positions_from 0 134,
    )
unfolding layouts_compute
all_pair = refl

-- the 64th does not: the search stops there, and the first pair still counts
pub stopped : laid_out (deep 64) Ltr
    ≡ (
      levels (0 ∷ 0 ∷ 1 ∷ 0 ∷ 1 ∷ 0 ∷ []) ++ replicate 64 (Some 0) ++ Some 1 ∷ replicate 64 (Some 1) ++ Some 1 ∷ [],
      positions_from 0 70 ++ reverse (positions_from 70 66),
    )
unfolding layouts_compute
stopped = refl
