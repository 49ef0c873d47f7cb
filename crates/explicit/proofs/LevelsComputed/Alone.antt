-- The levels alone of a paragraph without R and AL: those of successive ordinary classes, and those of all positions.
use Rattle.std.proofs.Common.{◌≡◌, ℕ, ◌+◌, ◌-◌, ◌<◌, ◌≤◌, false, List, length, get_or, set, Option, arith, inl, inr, refl, sym, ap, ◌∙◌}
use Rattle.std.specs.Prelude.{None, Some}
use Rattle.std.specs.Option.{option_map}
use Rattle.std.proofs.lemmas.Bool.{cases_lt}
use Rattle.std.proofs.lemmas.List.{ext_get_or, get_or-set_other, get_or-set_same, get_or_past}
use Rattle.units.specs.Classes.{is_right_to_left}
use Rattle.units.specs.Explicit.{explicit_level_at}
use Rattle.units.specs.Isolates.{begins_right_to_left}
use Rattle.units.specs.Runs.{leveled_of}
use Rattle.units.specs.declared.class.Class.{Class}
use Rattle.units.specs.declared.class.Class.TheVariants.{L}
use Rattle.explicit.specs.IdleRules.{HasNone}
use Rattle.explicit.specs.LevelsAlone.{HoldsLevelsAlone, with_level}
use Rattle.explicit.specs.StatusStacks.{is_ordinary, state_within}
use Rattle.explicit.specs.Stretches.{IsStretch}
use Rattle.explicit.specs.declared.status.Status.{Status}
use Rattle.explicit.proofs.LevelsComputed.ExplicitAt.{open_before}
use Rattle.explicit.proofs.LevelsComputed.Leveled.{level-read, size-is}
use Rattle.explicit.proofs.LevelsComputed.Stretches.{stretch-leveled}
use Rattle.explicit.proofs.Matched.Stretched.{stretched_further, stretched_inside, stretched_length, stretched_next, stretched_none, stretched_outside}

-- no position, one more, and many more
pub alone-none : (level from : ℕ) (levels : List (Option ℕ)) → with_level level from from levels ≡ levels
alone-none level from levels = stretched_none (λ _. Some level) from levels

pub alone-next : (level from p : ℕ) (levels : List (Option ℕ)) → from ≤ p →
    set (with_level level from p levels) p (Some level) ≡ with_level level from (p + 1) levels
alone-next level from p levels low = stretched_next (λ _. Some level) from p levels low

pub alone-joined : (level from p end : ℕ) (levels middle new : List (Option ℕ)) → from ≤ p → p ≤ end →
    middle ≡ with_level level from p levels → new ≡ with_level level p end middle →
    new ≡ with_level level from end levels
alone-joined level from p end levels middle new low high one other =
    other ∙ ap (with_level level p end) one ∙ stretched_further (λ _. Some level) from p end levels low high

pub alone-length : (level from end : ℕ) (levels : List (Option ℕ)) →
    length (with_level level from end levels) ≡ length levels
alone-length level from end levels = stretched_length (λ _. Some level) from end levels

pub alone-two : (level p : ℕ) (levels : List (Option ℕ)) →
    set (set levels p (Some level)) (p + 1) (Some level) ≡ with_level level p (p + 2) levels
alone-two level p levels =
    let two : p + 1 + 1 ≡ p + 2 = omega arith in
    ap (λ (xs : List (Option ℕ)). set (set xs p (Some level)) (p + 1) (Some level)) (sym (alone-none level p levels))
    ∙ ap (λ (xs : List (Option ℕ)). set xs (p + 1) (Some level)) (alone-next level p p levels (omega arith))
    ∙ alone-next level p (p + 1) levels (omega arith)
    ∙ ap (λ (q : ℕ). with_level level p q levels) two

-- the levels so far, with those of a stretch
pub alone-filled : (cs : List Class) (from end : ℕ) → IsStretch is_ordinary cs from end → (depth base : ℕ)
    (status : Status) → status.level ≡ (state_within depth cs base (open_before cs from)).level →
    status.override_class ≡ (state_within depth cs base (open_before cs from)).override →
    (levels new : List (Option ℕ)) → new ≡ with_level status.level from end levels → end ≤ length levels →
    ((k : ℕ) → k < from → get_or levels k None ≡ explicit_level_at depth cs base k) → (k : ℕ) → k < end →
    get_or new k None ≡ explicit_level_at depth cs base k
alone-filled cs from end s depth base status level override levels new is room below k l =
    ap (λ (xs : List (Option ℕ)). get_or xs k None) is
    ∙ elim (cases_lt k from) [
      | inl before ↦ stretched_outside (λ _. Some status.level) from end levels k (omega arith) (inl before) ∙
          below k before
      | inr following ↦
          let e : from + (k - from) ≡ k = omega arith in
          stretched_inside (λ _. Some status.level) from end levels k (omega arith) following l
          ∙ ap (option_map (λ place. place.0))
          (stretch-leveled cs from end s depth base status level override (k - from) (omega arith))
          ∙ ap (explicit_level_at depth cs base) e
    ]

-- one position more has its level
pub alone-more : (depth : ℕ) (cs : List Class) (base p : ℕ) (levels : List (Option ℕ))
    (level : Option ℕ) → p < length levels → level ≡ explicit_level_at depth cs base p →
    ((k : ℕ) → k < p → get_or levels k None ≡ explicit_level_at depth cs base k) → (k : ℕ) → k < p + 1 →
    get_or (set levels p level) k None ≡ explicit_level_at depth cs base k
alone-more depth cs base p levels level room found below k h = grind (arith, get_or-set_same, get_or-set_other)

-- P2, P3: no isolate begins right to left
pub begins_left_to_right : (cs : List Class) → HasNone is_right_to_left cs → (o : Option ℕ) →
    begins_right_to_left cs o ≡ false
begins_left_to_right cs none None = refl
begins_left_to_right cs none (Some p) =
    elim (cases_lt p (length cs)) [
      | inl inside ↦ none p L inside
      | inr past ↦ ap is_right_to_left (get_or_past cs p L past)
    ]

-- these are the levels that the sequences see
pub alone-are : (depth : ℕ) (cs : List Class) (base : ℕ) (levels : List (Option ℕ)) →
    HoldsLevelsAlone levels depth cs base → length levels ≡ length cs → levels ≡ (leveled_of depth cs base).levels
alone-are depth cs base levels holds n =
    ext_get_or None levels (leveled_of depth cs base).levels (n ∙ sym (size-is depth cs base))
    (λ i h. holds i (omega arith) ∙ sym (level-read depth cs base i (omega arith)))
