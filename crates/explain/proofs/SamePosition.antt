-- The line of a position, from equal parts.
use Rattle.std.proofs.Common.{◌≡◌, ◌∙◌, ℕ, List, Option, ap}
use Rattle.units.specs.declared.class.Class.{Class}
use Rattle.explain.specs.PositionText.{position_text}
use Rattle.explain.specs.declared.position.PositionLevels.{PositionLevels}

pub same_position : (p : ℕ) (c d : Option ℕ) (cs ds : List Class) (l m : PositionLevels) → c ≡ d → cs ≡ ds → l ≡ m →
    position_text p c cs l ≡ position_text p d ds m
same_position p c d cs ds l m e f h =
    ap (λ x. position_text p x cs l) e ∙ ap (λ xs. position_text p d xs l) f ∙
    ap (λ levels. position_text p d ds levels) h
