-- L1 over a line whose removed positions have levels, from its end.
use Rattle.std.proofs.Common.{◌≡◌, ℕ, ◌+◌, ◌<◌, ◌≤◌, Bool, true, false, cond, List, [], length, get_or, set, refl, sym, ap, ◌∙◌, subst, inl, inr, arith, length-set}
use Rattle.std.specs.Prelude.{◌&&◌, ◌||◌, not, map, slice_index}
use Rattle.std.proofs.lemmas.Bool.{cases_eq}
use Rattle.std.proofs.lemmas.List.{ext_get_or, get_or-map, get_or-set_same, get_or-set_other, length-map}
use Rattle.units.specs.declared.class.Class.{Class}
use Rattle.units.specs.declared.class.Class.TheVariants.{BN, B, S, WS, LRE, LRO, RLE, RLO, PDF, LRI, RLI, FSI, PDI}
use Rattle.units.specs.Classes.{class_at, is_line_separator, is_separator}
use Rattle.units.specs.Positions.{positions_from}
use Rattle.units.specs.Reordering.{is_solid}
use Rattle.units.proofs.Positions.{length-positions_from, get_or-positions_from}
use Rattle.lines.specs.Spaces.{resets_before}
use Rattle.lines.proofs.TextEnd.{resets_in, resets_in-next, resets_to, resets_to-end, resets_to-is}
use Rattle.visual.specs.GivenLevels.{is_reset_in, levels_reset_in}

class_resets : (c : Class) (later : Bool) → (is_line_separator c || (not (is_solid c) && later)) ≡ resets_before c later
class_resets S later = refl
class_resets B later = refl
class_resets WS later = refl
class_resets LRI later = refl
class_resets RLI later = refl
class_resets FSI later = refl
class_resets PDI later = refl
class_resets LRE later = refl
class_resets RLE later = refl
class_resets LRO later = refl
class_resets RLO later = refl
class_resets PDF later = refl
class_resets BN later = refl
class_resets _ later = refl

separator_resets : (c : Class) (later : Bool) →
    resets_before c (is_separator c || false || later) ≡ resets_before c later
separator_resets B later = refl
separator_resets _ later = refl

-- whether the positions before p are reset, from whether those before p + 1 are
resets_next : (own : List Class) (p : ℕ) (resets : Bool) → p < length own → resets ≡ resets_to own [] (p + 1) →
    resets_before (class_at own p) resets ≡ resets_to own [] p
resets_next own p resets low is =
    let next : (is_separator (class_at own p) || false || resets) ≡ resets_in own [] (p + 1) =
    resets_in-next own [] p (is_separator (class_at own p)) false resets low refl refl is in
    sym (separator_resets (class_at own p) resets) ∙ ap (resets_before (class_at own p)) next ∙
    sym (resets_to-is own [] p low)

-- this is whether p itself is reset
reset_is : (own : List Class) (p : ℕ) → p < length own → is_reset_in own p ≡ resets_to own [] p
reset_is own p low = class_resets (class_at own p) (resets_in own [] (p + 1)) ∙ sym (resets_to-is own [] p low)

-- the positions from p on are reset, and those before p are unchanged
pub record IsResetFrom (own : List Class) (para : ℕ) (old : List ℕ) (p : ℕ) (resets : Bool)
    (levels : List ℕ) : Type 0 where
  pub len : length levels ≡ length old
  pub flag : resets ≡ resets_to own [] p
  pub below : (k : ℕ) → k < p → get_or levels k 0 ≡ get_or old k 0
  pub done : (k : ℕ) → p ≤ k → k < length old → get_or levels k 0 ≡ cond (is_reset_in own k) para (get_or old k 0)

pub reset_none : (own : List Class) (para : ℕ) (old : List ℕ) → length own ≡ length old →
    IsResetFrom own para old (length old) true old
reset_none own para old all =
    record {
      len = refl;
      flag = sym (resets_to-end own [] (length old) (omega arith));
      below = λ k low. refl;
      done = λ k from low. absurd (omega arith);
    }

pub reset_one : (own : List Class) (para : ℕ) (old : List ℕ) (p : ℕ) (resets resets2 : Bool) (levels levels2 : List ℕ) →
    length own ≡ length old → p < length old → resets2 ≡ resets_before (class_at own p) resets →
    levels2 ≡ set levels p (cond resets2 para (get_or levels p 0)) → IsResetFrom own para old (p + 1) resets levels →
    IsResetFrom own para old p resets2 levels2
reset_one own para old p resets resets2 levels levels2 all low flag is r =
    let f : resets2 ≡ resets_to own [] p = flag ∙ resets_next own p resets (omega arith) r.flag in
    let put : ℕ = cond resets2 para (get_or levels p 0) in
    record {
      len = ap length is ∙ length-set levels p put ∙ r.len;
      flag = f;
      below = λ k less. ap (λ xs. get_or xs k 0) is ∙ get_or-set_other levels p k put 0 (omega arith) ∙
          r.below k (omega arith);
      done = λ k from within. elim (cases_eq k p) [
        | inl same ↦
            let here : get_or levels2 p 0 ≡ cond (is_reset_in own p) para (get_or old p 0) =
            ap (λ xs. get_or xs p 0) is ∙ get_or-set_same levels p put 0 (omega (arith, r.len))
            ∙ ap (λ b. cond b para (get_or levels p 0)) (f ∙ sym (reset_is own p (omega arith)))
            ∙ ap (λ n. cond (is_reset_in own p) para n) (r.below p (omega arith)) in
            subst (λ m. get_or levels2 m 0 ≡ cond (is_reset_in own m) para (get_or old m 0)) (sym same) here
        | inr other ↦ ap (λ xs. get_or xs k 0) is ∙ get_or-set_other levels p k put 0 other ∙
            r.done k (omega arith) within
      ];
    }

pub reset_all : (own : List Class) (para : ℕ) (old : List ℕ) (p : ℕ) (resets : Bool) (levels : List ℕ) → p ≡ 0 →
    IsResetFrom own para old p resets levels → levels ≡ levels_reset_in own para old
unfolding levels_reset_in
reset_all own para old p resets levels none r =
    let f : ℕ → ℕ = λ k. cond (is_reset_in own k) para (slice_index old k) in
    let ps : List ℕ = positions_from 0 (length old) in
    let n = length-positions_from 0 (length old) in
    ext_get_or 0 levels (map f ps) (r.len ∙ sym (length-map ps f ∙ n)) (λ k low.
    let within : k < length old = omega (arith, r.len) in
    let at : get_or ps k 0 ≡ k = get_or-positions_from 0 (length old) k 0 within ∙ omega arith in
    r.done k (omega arith) within ∙ sym (get_or-map f ps k 0 0 (omega (arith, n)) ∙ ap f at))
