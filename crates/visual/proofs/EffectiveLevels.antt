-- The level of a position of a line, from the positions after it.
use Rattle.std.proofs.Common.{◌≡◌, ℕ, ◌+◌, ◌-◌, ◌<◌, ◌≤◌, true, false, cond, Option, Some, None, List, zero, suc, refl, sym, ap, ◌∙◌, inl, inr, arith}
use Rattle.std.specs.Prelude.{slice_index_or, unwrap_or, is_some}
use Rattle.std.specs.Option.{option_map_or}
use Rattle.std.proofs.lemmas.Bool.{cases_lt}
use Rattle.units.specs.Positions.{first_from}
use Rattle.lines.specs.LinePositions.{HasLevel, is_remaining}
use Rattle.visual.specs.Spans.{AllRemoved}
use Rattle.visual.specs.EffectiveLevelRanges.{effective_level, next_remaining}

-- the level of the next remaining position if there is one, else that of the paragraph
abbrev pub level_of_next : List (Option ℕ) → ℕ → Option ℕ → ℕ
level_of_next levels para_level found =
    option_map_or (λ q. unwrap_or (slice_index_or levels q None) para_level) found para_level

pub effective-is : (levels : List (Option ℕ)) (para end p : ℕ) →
    effective_level levels para end p ≡ level_of_next levels para (next_remaining levels end p)
unfolding effective_level
effective-is levels para end p = refl

next-own : (levels : List (Option ℕ)) (end p v : ℕ) → p < end → HasLevel levels p v →
    next_remaining levels end p ≡ Some p
next-own levels end p v lt h =
    let e : end - p ≡ suc (end - (p + 1)) = omega arith in
    let b : is_remaining levels p ≡ true = ap is_some h in
    ap (λ n. first_from (is_remaining levels) p n) e ∙
    ap (λ t. cond t (Some p) (first_from (is_remaining levels) (p + 1) (end - (p + 1)))) b

pub next-removed : (levels : List (Option ℕ)) (end p : ℕ) → p < end → slice_index_or levels p None ≡ None →
    next_remaining levels end p ≡ next_remaining levels end (p + 1)
next-removed levels end p lt h =
    let e : end - p ≡ suc (end - (p + 1)) = omega arith in
    let b : is_remaining levels p ≡ false = ap is_some h in
    ap (λ n. first_from (is_remaining levels) p n) e ∙
    ap (λ t. cond t (Some p) (first_from (is_remaining levels) (p + 1) (end - (p + 1)))) b

-- a remaining position has its own level
pub effective-own : (levels : List (Option ℕ)) (para end p v : ℕ) → p < end → HasLevel levels p v →
    effective_level levels para end p ≡ v
effective-own levels para end p v lt h =
    effective-is levels para end p ∙ ap (level_of_next levels para) (next-own levels end p v lt h) ∙
    ap (λ o. unwrap_or o para) h

-- a removed position has that of the next position
pub effective-next : (levels : List (Option ℕ)) (para end p : ℕ) → p < end → slice_index_or levels p None ≡ None →
    effective_level levels para end p ≡ effective_level levels para end (p + 1)
effective-next levels para end p lt h =
    effective-is levels para end p ∙ ap (level_of_next levels para) (next-removed levels end p lt h) ∙
    sym (effective-is levels para end (p + 1))

-- after the line it is that of the paragraph
pub effective-end : (levels : List (Option ℕ)) (para end : ℕ) → effective_level levels para end end ≡ para
effective-end levels para end =
    let e : end - end ≡ 0 = omega arith in
    effective-is levels para end end ∙ ap (λ n. level_of_next levels para (first_from (is_remaining levels) end n)) e

through : (levels : List (Option ℕ)) (para end p n q : ℕ) → p + n ≡ q → q ≤ end → AllRemoved levels p q →
    effective_level levels para end p ≡ effective_level levels para end q
through levels para end p zero q e le all = let t : p ≡ q = omega arith in ap (effective_level levels para end) t
through levels para end p (suc n) q e le all =
    effective-next levels para end p (omega arith) (all p (omega arith) (omega arith))
    ∙ through levels para end (p + 1) n q (omega arith) le (λ d a b. all d (omega arith) b)

-- removed positions have that of the position after them
pub effective-through : (levels : List (Option ℕ)) (para end p q : ℕ) → p ≤ q → q ≤ end → AllRemoved levels p q →
    effective_level levels para end p ≡ effective_level levels para end q
effective-through levels para end p q low le all = through levels para end p (q - p) q (omega arith) le all

-- all remaining positions from p through q have this level
abbrev pub AllAt : List (Option ℕ) → ℕ → ℕ → ℕ → Type 0
AllAt levels v p q = (d u : ℕ) → p ≤ d → d ≤ q → HasLevel levels d u → u ≡ v

inner_by : (levels : List (Option ℕ)) (para end v p n q : ℕ) (o : Option ℕ) → slice_index_or levels p None ≡ o →
    p + n ≡ q → q < end → HasLevel levels q v → AllAt levels v p q →
    (p < q → effective_level levels para end (p + 1) ≡ v) → effective_level levels para end p ≡ v
inner_by levels para end v p n q (Some u) is e lt h all next =
    let t : u ≡ v = all p u (omega arith) (omega arith) is in
    effective-own levels para end p u (omega arith) is ∙ t
inner_by levels para end v p n q None is e lt h all next =
    elim (cases_lt p q) [
      | inl l ↦ effective-next levels para end p (omega arith) is ∙ next l
      | inr l ↦ let t : p ≡ q = omega arith in
          absurd (let z : None ≡ Some v = sym is ∙ ap (λ k. slice_index_or levels k None) t ∙ h in cc)
    ]

inner : (levels : List (Option ℕ)) (para end v p n q : ℕ) → p + n ≡ q → q < end → HasLevel levels q v →
    AllAt levels v p q → effective_level levels para end p ≡ v
inner levels para end v p zero q e lt h all =
    inner_by levels para end v p zero q (slice_index_or levels p None) refl e lt h all (λ l. absurd (omega arith))
inner levels para end v p (suc n) q e lt h all =
    inner_by levels para end v p (suc n) q (slice_index_or levels p None) refl e lt h all
    (λ l. inner levels para end v (p + 1) n q (omega arith) lt h (λ d u a b k. all d u (omega arith) b k))

-- positions up to a remaining one have its level, if all that remain there do
pub effective-inner : (levels : List (Option ℕ)) (para end v p q : ℕ) → p ≤ q → q < end → HasLevel levels q v →
    AllAt levels v p q → effective_level levels para end p ≡ v
effective-inner levels para end v p q le lt h all = inner levels para end v p (q - p) q (omega arith) lt h all
