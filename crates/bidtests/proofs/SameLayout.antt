-- Directions under which a text has the same layout.
use Rattle.std.proofs.Common.{arith, ◌≡◌, ℕ, ◌+◌, ◌<◌, Option, Some, None, List, [], ◌∷◌, map, flat_map, length, drop, get_or, drop-cons, add-one, refl, sym, ◌∙◌}
use Rattle.std.specs.Prelude.{IfSome}
use Rattle.units.specs.declared.bracket.Unit.{Unit as BidiUnit}
use Rattle.units.specs.declared.level.Direction.{Direction}
use Rattle.units.specs.declared.class.Class.{Class}
use Rattle.units.specs.Classes.{classes_of}
use Rattle.units.specs.Isolates.{para_level_of}
use Rattle.units.specs.Paragraphs.{paragraphs_of}
use Rattle.units.specs.Layout.{layout_of, para_levels_of, resolved_levels}
use Rattle.units.specs.Limits.{LimitsOf}
use Rattle.lines.specs.declared.scratch.Scratch.{Scratch}
use Rattle.bidtests.specs.LaidOut.{IsLaidOut}
use Rattle.bidtests.specs.Verdicts.{Expected, wrong_case}
use Rattle.bidtests.specs.Comparisons.{HasNoWrongPlace}

-- paragraphs with the same levels are resolved alike
resolved-alike : (limits : LimitsOf) (paras : List (List BidiUnit)) (d e : Direction)
    → map (λ us. para_level_of (classes_of us) d) paras ≡ map (λ us. para_level_of (classes_of us) e) paras
    → flat_map (λ us. resolved_levels limits us (para_level_of (classes_of us) d)) paras ≡
    flat_map (λ us. resolved_levels limits us (para_level_of (classes_of us) e)) paras
resolved-alike limits [] d e same = refl
resolved-alike limits (us ∷ paras) d e same = grind (arith, resolved-alike limits paras d e)

-- directions that give the paragraphs of a text the same levels give it the same layout
pub laid-out-alike : (limits : LimitsOf) (text : List BidiUnit) (d e : Direction) (breaks : List ℕ) →
    para_levels_of text d ≡ para_levels_of text e → layout_of limits text d breaks ≡ layout_of limits text e breaks
unfolding layout_of
laid-out-alike limits text d e breaks same = grind (arith, resolved-alike)

one-level : {A : Type 0} (f g : A → ℕ) (xs : List A) (level : ℕ) → map f xs ≡ level ∷ [] → ((x : A) → g x ≡ level) →
    map f xs ≡ map g xs
one-level f g [] level one all = cc
one-level f g (x ∷ []) level one all = let same : g x ≡ level = all x in cc
one-level f g (x ∷ y ∷ xs) level one all = absurd cc

-- a direction that gives every paragraph the level of a text's only paragraph gives the text the same layout
pub one-laid-out-alike : (limits : LimitsOf) (text : List BidiUnit) (d e : Direction) (breaks : List ℕ) (level : ℕ) →
    para_levels_of text d ≡ level ∷ []
    → ((classes : List Class) → para_level_of classes e ≡ level) →
    layout_of limits text d breaks ≡ layout_of limits text e breaks
one-laid-out-alike limits text d e breaks level one all =
    laid-out-alike limits text d e breaks (one-level (λ us. para_level_of (classes_of us) d) (λ us.
    para_level_of (classes_of us) e) (paragraphs_of text) level one (λ us. all (classes_of us)))

head-same : {x y : ℕ} → x ∷ [] ≡ y ∷ [] → x ≡ y
head-same same = cc

-- the same, stated with the list of the paragraph's levels
pub alike-by-level : (limits : LimitsOf) (text : List BidiUnit) (d e : Direction) (levels : List ℕ) →
    levels ≡ para_levels_of text d
    → ((classes : List Class) → levels ≡ para_level_of classes e ∷ []) →
    layout_of limits text d [] ≡ layout_of limits text e []
alike-by-level limits text d e levels are same =
    let one : para_levels_of text d ≡ para_level_of [] e ∷ [] = sym are ∙ same [] in
    let all : (classes : List Class) → para_level_of classes e ≡ para_level_of [] e =
    λ classes. head-same (sym (same classes) ∙ same []) in
    one-laid-out-alike limits text d e [] (para_level_of [] e) one all

-- if a row is right under one direction, it is right under another that gives its text's only paragraph the same level
pub also-right : (limits : LimitsOf) (expected : Expected) (d : Direction) (found : Option Direction)
    (levels : List ℕ) → levels ≡ para_levels_of expected.text d
    → IfSome found (λ e. (classes : List Class) → levels ≡ para_level_of classes e ∷ []) →
    HasNoWrongPlace limits expected d → IfSome found (HasNoWrongPlace limits expected)
also-right limits expected d None levels are same right = tt
also-right limits expected d (Some e) levels are same right =
    let alike = alike-by-level limits expected.text d e levels are same in
    rw (← alike) right

-- the layout in a scratch is also the one under such a direction, if there is one
pub also-laid-out : (limits : LimitsOf) (text : List BidiUnit) (scratch : Scratch) (d : Direction)
    (found : Option Direction) (levels : List ℕ) → levels ≡ para_levels_of text d
    → IfSome found (λ e. (classes : List Class) → levels ≡ para_level_of classes e ∷ []) →
    IsLaidOut limits text scratch d → IfSome found (IsLaidOut limits text scratch)
also-laid-out limits text scratch d None levels are same laid = tt
also-laid-out limits text scratch d (Some e) levels are same laid =
    record { filled = laid.filled; layout = laid.layout ∙ alike-by-level limits text d e levels are same }

-- a direction under which the row is right is skipped
pub passed-over : (limits : LimitsOf) (expected : Expected) (ds : List Direction) (i : ℕ) (d : Direction) →
    i < length ds → HasNoWrongPlace limits expected (get_or ds i d) →
    wrong_case limits expected (drop i ds) ≡ wrong_case limits expected (drop (i + 1) ds)
passed-over limits expected ds i d lt right =
    rw (add-one, drop-cons ds i d lt) (rw right refl)
