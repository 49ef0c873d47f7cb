-- Whether a set contains one of some classes.
use Rattle.std.proofs.Common.{arith, ◌≡◌, Bool, true, false, List, [], ◌∷◌, refl, ap, sym, ◌∙◌}
use Rattle.std.specs.Prelude.{◌||◌}
use Rattle.std.specs.List.{list_any}
use Rattle.units.specs.declared.class.Class.{Class}
use Rattle.paragraph.specs.ClassSets.{is_class}

or_false : (a b : Bool) → (b ≡ false) → (a || b) ≡ a
or_false true b e = refl
or_false false b e = e

-- one of the first classes is among the second ones
abbrev pub any_of : List Class → List Class → Bool
any_of [] cs = false
any_of (d ∷ ds) cs = list_any (is_class d) cs || any_of ds cs

or_swap : (a b c d : Bool) → ((a || b) || (c || d)) ≡ ((a || c) || (b || d))
or_swap true b c d = refl
or_swap false true true d = refl
or_swap false true false d = refl
or_swap false false c d = refl

any_of-nil : (ds : List Class) → any_of ds [] ≡ false
any_of-nil [] = refl
any_of-nil (d ∷ ds) = any_of-nil ds

any_of-cons : (ds cs : List Class) (c : Class) → any_of ds (c ∷ cs) ≡ (any_of ds (c ∷ []) || any_of ds cs)
any_of-cons [] cs c = refl
any_of-cons (d ∷ ds) cs c = grind (arith, or_swap, or_false, any_of-cons ds cs c)

pub tested_by : (test : Class → Bool) (ds : List Class) → ((c : Class) → test c ≡ any_of ds (c ∷ [])) →
    (cs : List Class) → any_of ds cs ≡ list_any test cs
tested_by test ds e [] = any_of-nil ds
tested_by test ds e (c ∷ cs) = any_of-cons ds cs c ∙ ap (λ b. b || any_of ds cs) (sym (e c)) ∙
    ap (λ b. test c || b) (tested_by test ds e cs)
