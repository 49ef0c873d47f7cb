-- An override imposes L or R, and a removed position is BN: any other class after X1 to X8 is the own one.
use Rattle.std.specs.Prelude.{Option, Some, None, ℕ, Bool, true, false, ◌≡◌, List, [], ◌∷◌, length, fold, refl, IfSome, unwrap_or, if◌then◌else◌}
use Rattle.std.specs.Option.{option_map_or}
use Rattle.std.proofs.Common.{arith, ap, sym, ◌∙◌, inl, inr}
use Rattle.std.proofs.lemmas.Bool.{cases_lt, both_ways}
use Rattle.std.proofs.lemmas.List.{get_or-map, get_or_past, length-map}
use Rattle.units.specs.Classes.{class_at, is_nonspacing}
use Rattle.units.specs.Explicit.{State, entered, override_of, explicit_at, explicit_of}
use Rattle.units.specs.Layout.{current_of}
use Rattle.units.specs.Positions.{positions_of}
use Rattle.units.specs.declared.class.Class.{Class}
use Rattle.units.specs.declared.class.Class.TheVariants.{L, R, BN, LRO, RLO}
use Rattle.units.proofs.Positions.{length-positions_from, get_or-positions_from}
use Rattle.resolve.specs.Wanted.{is_imposed}

-- an override is a direction
abbrev IsDirection : Option Class → Type 0
IsDirection override = IfSome override (λ c. is_imposed c ≡ true)

override_of-direction : (c : Class) → IsDirection (override_of c)
override_of-direction RLO = refl
override_of-direction LRO = refl
override_of-direction c = tt

either : (b : Bool) (x y : State) → IsDirection x.override → IsDirection y.override →
    IsDirection (if b then x else y).override
either true x y hx hy = hx
either false x y hx hy = hy

entered-direction : (depth : ℕ) (cs : List Class) (s : State) (q : ℕ) → IsDirection s.override →
    IsDirection (entered depth cs s q).override
unfolding entered
entered-direction depth cs s q h = grind (arith, either, override_of-direction)

fold-direction : (depth : ℕ) (cs : List Class) (s : State) (qs : List ℕ) → IsDirection s.override →
    IsDirection (fold (entered depth cs) s qs).override
fold-direction depth cs s [] h = h
fold-direction depth cs s (q ∷ qs) h =
    fold-direction depth cs (entered depth cs s q) qs (entered-direction depth cs s q h)

-- the class of a position, or BN
abbrev placed : Option (ℕ × Class) → Class
placed place = option_map_or (λ (x : ℕ × Class). x.1) place BN

placed-own : (removed separator : Bool) (para level : ℕ) (own : Class) (override : Option Class) →
    IsDirection override →
    is_imposed (placed (if removed then None else if separator then Some (para, own) else Some (
      level,
      unwrap_or override own,
    ))) ≡ false →
    placed (if removed then None else if separator then Some (para, own) else Some (level, unwrap_or override own)) ≡
    own
placed-own true separator para level own override h m = cc
placed-own false true para level own override h m = refl
placed-own false false para level own None h m = refl
placed-own false false para level own (Some c) h m = absurd (both_ways (is_imposed c) m h)

explicit-own : (depth : ℕ) (cs : List Class) (para p : ℕ) → is_imposed (placed (explicit_at depth cs para p)) ≡ false →
    placed (explicit_at depth cs para p) ≡ class_at cs p
unfolding explicit_at
explicit-own depth cs para p m = grind (arith, placed-own, fold-direction)

-- the current classes of a paragraph
pub current-own : (depth : ℕ) (cs : List Class) (para p : ℕ) →
    is_imposed (class_at (current_of (explicit_of depth cs para)) p) ≡ false →
    class_at (current_of (explicit_of depth cs para)) p ≡ class_at cs p
current-own depth cs para p m =
    let n : length (explicit_of depth cs para) ≡ length cs = length-map (positions_of cs) (explicit_at depth cs para) ∙
    length-positions_from 0 (length cs) in
    elim (cases_lt p (length cs)) [
      | inl h ↦
          (let read : class_at (current_of (explicit_of depth cs para)) p ≡ placed (explicit_at depth cs para p) =
          get_or-map placed (explicit_of depth cs para) p None L (omega (arith, n))
          ∙ ap placed (get_or-map (explicit_at depth cs para) (positions_of cs) p 0 None (omega (
            arith,
            length-positions_from 0 (length cs),
          ))
          ∙ ap (explicit_at depth cs para) (get_or-positions_from 0 (length cs) p 0 h ∙ omega arith)) in
          read ∙ explicit-own depth cs para p (ap is_imposed (sym read) ∙ m))
      | inr past ↦
          (let long = length-map (explicit_of depth cs para) placed in
          get_or_past (current_of (explicit_of depth cs para)) p L (omega (arith, n, long)) ∙
          sym (get_or_past cs p L past))
    ]

mark-not_imposed : (c : Class) → is_nonspacing c ≡ true → is_imposed c ≡ false
mark-not_imposed L h = cc
mark-not_imposed R h = cc
mark-not_imposed BN h = cc
mark-not_imposed c h = refl

-- no override makes a mark
pub mark-own : (now own : Class) → (is_imposed now ≡ false → now ≡ own) → is_nonspacing now ≡ true →
    is_nonspacing own ≡ true
mark-own now own same m = ap is_nonspacing (sym (same (mark-not_imposed now m))) ∙ m
