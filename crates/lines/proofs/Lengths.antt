-- The number of levels of a layout.
use Rattle.std.proofs.Common.{◌≡◌, ◌∙◌, ℕ, suc, List, [], ◌∷◌, Option, length, ap, refl, arith}
use Rattle.std.specs.List.{flat_map}
use Rattle.std.proofs.lemmas.List.{length-append}
use Rattle.units.specs.Layout.{layout_of}
use Rattle.units.specs.Limits.{LimitsOf}
use Rattle.units.specs.Paragraphs.{begin_with, paragraphs_of}
use Rattle.units.specs.declared.bracket.Unit.{Unit as BidiUnit}
use Rattle.units.specs.declared.level.Direction.{Direction}
use Rattle.lines.proofs.TextEnd.{length-after_resets}
use Rattle.units.proofs.Lengths.{length-resolved_levels}

module _ (f : List BidiUnit → List (Option ℕ)) (unchanged : (us : List BidiUnit) → length (f us) ≡ length us) where
  length-begun : (unit : BidiUnit) (pieces : List (List BidiUnit)) →
      length (flat_map f (begin_with unit pieces)) ≡ suc (length (flat_map f pieces))
  length-begun unit [] = omega (arith, length-append (f (unit ∷ [])) [], unchanged (unit ∷ []))
  length-begun unit (piece ∷ pieces) = grind (arith, length-append)

  length-paragraphs : (text : List BidiUnit) → length (flat_map f (paragraphs_of text)) ≡ length text
  length-paragraphs [] = refl
  length-paragraphs (unit ∷ units) = length-begun unit (paragraphs_of units) ∙ ap (λ k. suc k) (length-paragraphs units)

pub length-levels : (limits : LimitsOf) (text : List BidiUnit) (direction : Direction) (breaks : List ℕ) →
    length (layout_of limits text direction breaks).levels ≡ length text
unfolding layout_of
length-levels limits text direction breaks =
    grind (arith, length-after_resets, length-paragraphs, length-resolved_levels)
