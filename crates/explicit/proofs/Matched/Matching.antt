-- Isolates are matched by counting, which is the same as matching by a stack.
use Rattle.std.proofs.Common.{arith, ◌≡◌, ℕ, Bool, true, false, List, length, Option, Some, None, refl, sym, ◌∙◌}
use Rattle.std.proofs.lemmas.Bool.{true≢false}
use Rattle.units.specs.Classes.{class_at, is_isolate_initiator, is_pdi}
use Rattle.units.specs.Isolates.{matching_pdi}
use Rattle.units.specs.declared.class.Class.{Class}
use Rattle.explicit.proofs.Holders.Roles.{opening, closing, other, kind_of}
use Rattle.explicit.proofs.Matched.Balance.{Exclude, match_of}
use Rattle.explicit.proofs.Matched.OpenStack.{IsStack}

-- the positions that open an isolate, and those that close one
abbrev pub opens_at : List Class → ℕ → Bool
opens_at cs p = is_isolate_initiator (class_at cs p)

abbrev pub closes_at : List Class → ℕ → Bool
closes_at cs p = is_pdi (class_at cs p)

pub opener_is_no_pdi : (c : Class) → is_isolate_initiator c ≡ true → is_pdi c ≡ false
opener_is_no_pdi c h = grind (arith, kind_of, opening, closing, true≢false, other)

pub isolates_exclude : (cs : List Class) → Exclude (opens_at cs) (closes_at cs)
isolates_exclude cs = record { apart = λ p h. opener_is_no_pdi (class_at cs p) h }

-- the first position after i and before k at which i is balanced
abbrev pub matching_before : List Class → ℕ → ℕ → Option ℕ
matching_before cs k i = match_of (opens_at cs) (closes_at cs) k i

-- the open initiators of the first k positions, m of them, the last one at s (m - 1)
abbrev pub IsOpenStack : List Class → ℕ → ℕ → (ℕ → ℕ) → Type 0
IsOpenStack cs k m s = IsStack (opens_at cs) (closes_at cs) k m s

-- for the whole paragraph
pub matching_pdi_of : (cs : List Class) (i : ℕ) → is_isolate_initiator (class_at cs i) ≡ true →
    matching_pdi cs i ≡ matching_before cs (length cs) i
unfolding matching_pdi match_of
matching_pdi_of cs i h = rw h refl

pub matching_pdi_none : (cs : List Class) (i : ℕ) → is_isolate_initiator (class_at cs i) ≡ false →
    matching_pdi cs i ≡ None
unfolding matching_pdi
matching_pdi_none cs i h = rw h refl

pub matching_pdi_opens : (cs : List Class) (i j : ℕ) → matching_pdi cs i ≡ Some j →
    is_isolate_initiator (class_at cs i) ≡ true
matching_pdi_opens cs i j e = grind (arith, matching_pdi_none)

pub matching_pdi_before : (cs : List Class) (i j : ℕ) → matching_pdi cs i ≡ Some j →
    matching_before cs (length cs) i ≡ Some j
matching_pdi_before cs i j e = sym (matching_pdi_of cs i (matching_pdi_opens cs i j e)) ∙ e
