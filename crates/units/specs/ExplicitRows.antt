-- Worked rows of isolates and explicit levels (BD9, BD11, X1 to X9).
use Rattle.std.specs.Prelude.{◌≡◌, [], ◌∷◌, ◌++◌, Some, None, map, refl, replicate}
use Rattle.units.specs.Isolates.{matching_pdi, matching_initiator, partner_of, isolate_holds, isolate_around, first_strong}
use Rattle.units.specs.Limits.{standard}
use Rattle.units.specs.Explicit.{explicit_of}
use Rattle.units.specs.RowWords.{plain, replicated, partners_in, laid_out, explicit_levels_compute, layouts_compute}
use Rattle.units.specs.declared.class.Class.TheVariants.{L, R, EN, ON, LRE, RLE, RLO, PDF, LRI, RLI, FSI, PDI}
use Rattle.units.specs.declared.level.Direction.TheVariants.{Auto, Ltr, Rtl}

-- matching counts: the inner PDI goes with the inner initiator, the last PDI with none
pub partners_of_nested : partners_in (RLI ∷ RLI ∷ PDI ∷ R ∷ PDI ∷ L ∷ [])
    ≡ Some 4 ∷ Some 2 ∷ Some 1 ∷ None ∷ Some 0 ∷ None ∷ []
unfolding matching_pdi matching_initiator partner_of isolate_holds isolate_around first_strong
partners_of_nested = refl

-- an initiator and its PDI have the level around the isolate
pub nested_isolates : explicit_of standard.depth (RLI ∷ RLI ∷ PDI ∷ R ∷ PDI ∷ L ∷ []) 0
    ≡ Some (0, RLI) ∷ Some (1, RLI) ∷ Some (1, PDI) ∷ Some (1, R) ∷ Some (0, PDI) ∷ Some (0, L) ∷ []
unfolding explicit_levels_compute
nested_isolates = refl

-- an override applies to an initiator and its PDI, and not inside
pub override_around_isolate : explicit_of standard.depth (RLO ∷ LRI ∷ EN ∷ PDI ∷ PDF ∷ []) 0
    ≡ None ∷ Some (1, R) ∷ Some (2, EN) ∷ Some (1, R) ∷ None ∷ []
unfolding explicit_levels_compute
override_around_isolate = refl

-- a PDI without a match closes nothing
pub unmatched_pdi : explicit_of standard.depth (RLE ∷ PDI ∷ L ∷ []) 0
    ≡ None ∷ Some (1, PDI) ∷ Some (1, L) ∷ []
unfolding explicit_levels_compute
unmatched_pdi = refl

-- an embedding in an overflow isolate closes with the isolate, and the PDF after it closes the last embedding around
pub embedding_in_overflow_isolate : explicit_of standard.depth
    (replicated 62 (RLE ∷ LRE ∷ []) ++ RLE ∷ LRI ∷ LRE ∷ PDI ∷ PDF ∷ L ∷ []) 0
    ≡ replicate 125 None ++ Some (125, LRI) ∷ None ∷ Some (125, PDI) ∷ None ∷ Some (124, L) ∷ []
unfolding explicit_levels_compute
embedding_in_overflow_isolate = refl

-- the 125th initiator has level 125, the 126th overflows
pub deepest_level : laid_out (map plain (replicated 62 (RLE ∷ LRE ∷ []) ++ RLE ∷ LRE ∷ L ∷ [])) Ltr
    ≡ (replicate 126 None ++ Some 126 ∷ [], 126 ∷ [])
unfolding layouts_compute
deepest_level = refl

-- each PDF closes one of the overflow embeddings
pub overflow_embeddings_close : laid_out
    (map plain (replicated 62 (RLE ∷ LRE ∷ []) ++ RLE ∷ LRE ∷ RLE ∷ PDF ∷ PDF ∷ L ∷ [])) Ltr
    ≡ (replicate 129 None ++ Some 126 ∷ [], 129 ∷ [])
unfolding layouts_compute
overflow_embeddings_close = refl

-- inside an initiator that overflows every initiator overflows, even if its level alone would be allowed
pub embedding_in_overflow_embedding : laid_out (map plain (replicated 62 (RLE ∷ LRE ∷ []) ++ LRE ∷ RLE ∷ L ∷ [])) Ltr
    ≡ (replicate 126 None ++ Some 124 ∷ [], 126 ∷ [])
unfolding layouts_compute
embedding_in_overflow_embedding = refl

-- a removed position has no level and is in no order
pub removed_alone_auto : laid_out (map plain (LRE ∷ [])) Auto
    ≡ (None ∷ [], [])
unfolding layouts_compute
removed_alone_auto = refl

-- a removed position has no level and is in no order
pub removed_alone_ltr : laid_out (map plain (LRE ∷ [])) Ltr
    ≡ (None ∷ [], [])
unfolding layouts_compute
removed_alone_ltr = refl

-- a removed position has no level and is in no order
pub removed_alone_rtl : laid_out (map plain (LRE ∷ [])) Rtl
    ≡ (None ∷ [], [])
unfolding layouts_compute
removed_alone_rtl = refl

-- a PDI without a match leaves the embedding open
pub pdi_closes_no_embedding : laid_out (map plain (RLE ∷ PDI ∷ L ∷ [])) Ltr
    ≡ (None ∷ Some 1 ∷ Some 2 ∷ [], 2 ∷ 1 ∷ [])
unfolding layouts_compute
pdi_closes_no_embedding = refl

-- a PDF inside an overflow isolate closes nothing outside it
pub pdf_in_overflow_isolate :
    (laid_out (map plain (replicated 62 (RLE ∷ LRE ∷ []) ++ RLE ∷ LRI ∷ PDF ∷ PDI ∷ L ∷ [])) Ltr).0
    ≡ replicate 125 None ++ Some 125 ∷ None ∷ Some 125 ∷ Some 126 ∷ []
unfolding layouts_compute
pdf_in_overflow_isolate = refl

-- PDF closes the last open embedding, and the override outside it stays in effect
pub embeddings_in_override : (laid_out (map plain (RLO ∷ LRE ∷ L ∷ PDF ∷ PDI ∷ LRE ∷ L ∷ PDF ∷ [])) Ltr).0
    ≡ None ∷ None ∷ Some 2 ∷ None ∷ Some 1 ∷ None ∷ Some 2 ∷ None ∷ []
unfolding layouts_compute
embeddings_in_override = refl

-- FSI acts as RLI if R is the first strong class inside it; it does not decide the paragraph level
pub first_strong_isolate : laid_out (map plain (FSI ∷ R ∷ PDI ∷ L ∷ [])) Auto
    ≡ (Some 0 ∷ Some 1 ∷ Some 0 ∷ Some 0 ∷ [], 0 ∷ 1 ∷ 2 ∷ 3 ∷ [])
unfolding layouts_compute
first_strong_isolate = refl

-- the content of an inner isolate decides nothing for the outer one
pub isolate_in_isolate : laid_out (map plain (FSI ∷ FSI ∷ R ∷ PDI ∷ PDI ∷ L ∷ [])) Auto
    ≡ (Some 0 ∷ Some 2 ∷ Some 3 ∷ Some 2 ∷ Some 0 ∷ Some 0 ∷ [], 0 ∷ 1 ∷ 2 ∷ 3 ∷ 4 ∷ 5 ∷ [])
unfolding layouts_compute
isolate_in_isolate = refl

-- the classes after the PDI decide nothing for the isolate either
pub nothing_strong_inside : laid_out (map plain (FSI ∷ ON ∷ PDI ∷ R ∷ [])) Ltr
    ≡ (Some 0 ∷ Some 2 ∷ Some 0 ∷ Some 1 ∷ [], 0 ∷ 1 ∷ 2 ∷ 3 ∷ [])
unfolding layouts_compute
nothing_strong_inside = refl
