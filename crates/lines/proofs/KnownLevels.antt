-- The level of a line, if it is known.
use Rattle.std.proofs.Common.{◌≡◌, ℕ, List, Option, Bool, true, false, refl, sym, subst}
use Rattle.std.specs.Prelude.{IfSome}
use Rattle.std.specs.Bool.{then_some}
use Rattle.units.specs.Isolates.{level_of_para}
use Rattle.units.specs.declared.level.ParaLevel.{ParaLevel}
use Rattle.lines.specs.LinePositions.{IsAtOneLevel}

-- a known level is that of the line
pub known_level : (known : Bool) (levels : List (Option ℕ)) (start end level : ℕ) (para : ParaLevel) →
    level_of_para para ≡ level → (known ≡ true → IsAtOneLevel levels start end level) →
    IfSome (then_some known para) (λ p. IsAtOneLevel levels start end (level_of_para p))
known_level true levels start end level para e u = subst (IsAtOneLevel levels start end) (sym e) (u refl)
known_level false levels start end level para e u = tt

-- a fact about a known level holds if the level is known
pub where_known : {P : Type 0} (known : Bool) (para : ParaLevel) (level : Option ParaLevel) →
    level ≡ then_some known para → IfSome level (λ _. P) → known ≡ true → P
where_known {P} true para level e noted is = subst (λ o. IfSome o (λ _. P)) e noted
where_known {P} false para level e noted is = cc
