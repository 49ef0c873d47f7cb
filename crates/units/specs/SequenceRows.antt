-- Worked rows of isolating run sequences (BD13, X10).
use Rattle.std.specs.Prelude.{◌≡◌, [], ◌∷◌, Some, None, map, refl}
use Rattle.units.specs.Limits.{standard}
use Rattle.units.specs.Runs.{leveled_of, sequences_of}
use Rattle.units.specs.RowWords.{plain, sequence, laid_out, explicit_levels_compute, layouts_compute}
use Rattle.units.specs.declared.class.Class.TheVariants.{L, R, AL, ON, LRE, PDF, LRI, RLI, FSI, PDI}
use Rattle.units.specs.declared.level.Direction.TheVariants.{Ltr}

-- no sequence continues across an embedding
pub parted_by_embedding : sequences_of (leveled_of standard.depth (R ∷ ON ∷ LRE ∷ L ∷ PDF ∷ ON ∷ R ∷ []) 0)
    ≡ sequence (0 ∷ 1 ∷ []) 0 L L 7 ∷ sequence (3 ∷ []) 2 L L 7 ∷ sequence (5 ∷ 6 ∷ []) 0 L L 7 ∷ []
unfolding explicit_levels_compute
parted_by_embedding = refl

-- a sequence continues after the PDI
pub joined_across_isolate : sequences_of (leveled_of standard.depth (R ∷ ON ∷ LRI ∷ L ∷ PDI ∷ ON ∷ R ∷ []) 0)
    ≡ sequence (0 ∷ 1 ∷ 2 ∷ 4 ∷ 5 ∷ 6 ∷ []) 0 L L 7 ∷ sequence (3 ∷ []) 2 L L 7 ∷ []
unfolding explicit_levels_compute
joined_across_isolate = refl

-- at the end of an initiator without a match is the paragraph level
pub open_isolate : sequences_of (leveled_of standard.depth (L ∷ RLI ∷ R ∷ []) 0)
    ≡ sequence (0 ∷ 1 ∷ []) 0 L L 3 ∷ sequence (2 ∷ []) 1 R R 3 ∷ []
unfolding explicit_levels_compute
open_isolate = refl

-- the end of an initiator without a match is that of the paragraph
pub open_isolate_after_al : (laid_out (map plain (AL ∷ FSI ∷ R ∷ [])) Ltr).0
    ≡ Some 1 ∷ Some 0 ∷ Some 1 ∷ []
unfolding layouts_compute
open_isolate_after_al = refl

-- an embedding separates the positions before it from those after it
pub not_joined : laid_out (map plain (R ∷ ON ∷ LRE ∷ L ∷ PDF ∷ ON ∷ R ∷ [])) Ltr
    ≡ (Some 1 ∷ Some 0 ∷ None ∷ Some 2 ∷ None ∷ Some 0 ∷ Some 1 ∷ [], 0 ∷ 1 ∷ 3 ∷ 5 ∷ 6 ∷ [])
unfolding layouts_compute
not_joined = refl

-- an isolate does not
pub continues_after_isolate : laid_out (map plain (R ∷ ON ∷ LRI ∷ L ∷ PDI ∷ ON ∷ R ∷ [])) Ltr
    ≡ (Some 1 ∷ Some 1 ∷ Some 1 ∷ Some 2 ∷ Some 1 ∷ Some 1 ∷ Some 1 ∷ [], 6 ∷ 5 ∷ 4 ∷ 3 ∷ 2 ∷ 1 ∷ 0 ∷ [])
unfolding layouts_compute
continues_after_isolate = refl
