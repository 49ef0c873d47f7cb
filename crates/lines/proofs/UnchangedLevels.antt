-- L1 changes no position that has the level of its paragraph.
use Rattle.std.proofs.Common.{◌≡◌, ℕ, ◌<◌, Bool, true, false, cond, Option, None, Some, List, length, get_or, refl, sym, ap, ◌∙◌, arith}
use Rattle.std.proofs.lemmas.List.{ext_get_or}
use Rattle.units.specs.declared.class.Class.{Class}
use Rattle.units.specs.Reordering.{after_resets, is_reset, para_level_at, reset_to}
use Rattle.lines.specs.Spaces.{AreAtParas}
use Rattle.lines.proofs.TextEnd.{length-after_resets, get_or-after_resets}

either_same : (b : Bool) (para v : ℕ) → v ≡ para → cond b para v ≡ v
either_same true para v e = sym e
either_same false para v e = refl

reset_same : (b : Bool) (para : ℕ) (o : Option ℕ) → ((v : ℕ) → o ≡ Some v → v ≡ para) → reset_to b para o ≡ o
reset_same b para None h = refl
reset_same b para (Some v) h = ap (λ n. Some n) (either_same b para v (h v refl))

pub levels_unchanged : (own : List Class) (breaks paras : List ℕ) (levels : List (Option ℕ)) →
    AreAtParas own paras levels → after_resets own breaks paras levels ≡ levels
levels_unchanged own breaks paras levels h =
    ext_get_or None (after_resets own breaks paras levels) levels (length-after_resets own breaks paras levels)
    (λ k lt.
    let l : k < length levels = omega (arith, length-after_resets own breaks paras levels) in
    get_or-after_resets own breaks paras levels k l
    ∙ reset_same (is_reset own breaks k) (para_level_at own paras k) (get_or levels k None) (λ v e. h.same k v e))
