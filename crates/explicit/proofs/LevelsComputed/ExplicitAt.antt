-- Explicit levels by the open initiators.
use Rattle.std.proofs.Common.{◌≡◌, ℕ, zero, suc, ◌+◌, ◌<◌, ◌≤◌, Bool, true, false, List, [], ◌∷◌, ◌++◌, length, arith, refl, sym, ap, subst, ◌∙◌, inl, inr, zero-add, append-nil, get_or, set, Option, ◌^◌, reverse}
use Rattle.std.proofs.lemmas.List.{reverse-append, get_or-set_same, get_or-set_other}
use Rattle.std.specs.Prelude.{None, filter, fold, is_none}
use Rattle.std.proofs.lemmas.Bool.{cases_Bool}
use Rattle.std.proofs.lemmas.List.Elements.{filter-append}
use Rattle.units.specs.Positions.{positions_from}
use Rattle.units.specs.Classes.{class_at, is_initiator, is_pdi, is_pdf, is_removed, is_separator}
use Rattle.units.specs.Explicit.{State, entered, state_of, chain, explicit_at}
use Rattle.units.specs.declared.class.Class.{Class}
use Rattle.explicit.specs.OpenInitiators.{opened, still_open}
use Rattle.explicit.specs.StackChanges.{IsPassed}
use Rattle.units.specs.declared.class.Class.TheVariants.{L, R, AL, EN, ES, ET, AN, CS, NSM, S, WS, ON}
use Rattle.explicit.specs.StatusStacks.{state_within, leveled_in, is_ordinary, Represents, IsReachedStack}
use Rattle.explicit.specs.declared.status.StatusStack.{StatusStack}
use Rattle.units.proofs.Positions.{positions_from-next}
use Rattle.explicit.proofs.Holders.Open.{below, holders, holds}
use Rattle.explicit.proofs.Holders.HoldersAfter.{holders-step}

-- the initiators that are open before p
abbrev pub open_before : List Class → ℕ → List ℕ
open_before cs zero = []
open_before cs (suc p) = opened cs p (holders cs p)

pub still_open_before : (cs : List Class) (p : ℕ) → p < length cs →
    still_open cs (class_at cs p) (open_before cs p) ≡ holders cs p
still_open_before cs zero l = grind arith
still_open_before cs (suc p) l = sym (holders-step cs p l)

pub open_before-next : (cs : List Class) (p : ℕ) → opened cs p (holders cs p) ≡ open_before cs (p + 1)
open_before-next cs p = let e : p + 1 ≡ suc p = omega arith in rw e refl

few-filtered : (t : ℕ → Bool) (p : ℕ) → length (filter t (below p)) ≤ p
few-filtered t zero = omega arith
few-filtered t (suc p) = grind (arith, few-filtered t p)

pub holders-few : (cs : List Class) (p : ℕ) → length (holders cs p) ≤ p
holders-few cs p = few-filtered (holds cs p) p

fold-snoc : (f : State → ℕ → State) (s : State) (xs : List ℕ) (x : ℕ) → fold f s (xs ++ x ∷ []) ≡ f (fold f s xs) x
fold-snoc f s [] x = refl
fold-snoc f s (y ∷ xs) x = fold-snoc f (f s y) xs x

-- the state inside initiators in rising order, or the same list in falling order
within-filtered : (depth : ℕ) (cs : List Class) (para : ℕ) (t : ℕ → Bool) (p : ℕ) →
    state_of depth cs para (filter t (positions_from 0 p)) ≡ state_within depth cs para (filter t (below p))
within-filtered depth cs para t zero = refl
within-filtered depth cs para t (suc p) =
    let ih = within-filtered depth cs para t p in
    let start : State = record { level = para; override = None; sound = true } in
    let more : positions_from 0 (suc p) ≡ positions_from 0 p ++ p ∷ [] = positions_from-next 0 p ∙
    ap (λ k. positions_from 0 p ++ k ∷ []) (zero-add p) in
    ap (λ xs. state_of depth cs para (filter t xs)) more
    ∙ ap (state_of depth cs para) (filter-append t (positions_from 0 p) (p ∷ []))
    ∙ elim (cases_Bool (t p)) [
      | inl u ↦ rw u (fold-snoc (entered depth cs) start (filter t (positions_from 0 p)) p ∙
          ap (λ s. entered depth cs s p) ih)
      | inr u ↦ rw u (ap (state_of depth cs para) (append-nil (filter t (positions_from 0 p))) ∙ ih)
    ]

pub state-of_chain : (depth : ℕ) (cs : List Class) (para p : ℕ) →
    state_of depth cs para (chain cs p) ≡ state_within depth cs para (holders cs p)
unfolding chain
state-of_chain depth cs para p = within-filtered depth cs para (holds cs p) p

-- the level and the class at p, by the state inside the initiators around it
pub explicit-leveled_in : (depth : ℕ) (cs : List Class) (para p : ℕ) →
    leveled_in (state_within depth cs para (holders cs p)) para (class_at cs p) ≡ explicit_at depth cs para p
unfolding explicit_at
explicit-leveled_in depth cs para p = ap (λ s. leveled_in s para (class_at cs p)) (sym (state-of_chain depth cs para p))

before-few : (cs : List Class) (p : ℕ) → length (open_before cs p) ≤ p
before-few cs zero = omega arith
before-few cs (suc p) = grind (arith, holders-few cs p)

-- what the stack represents before p
pub retained-before : (depth : ℕ) (cs : List Class) (base p : ℕ) (n : StatusStack) → depth ≤ 125 → base ≤ 1 →
    p < 2 ^ 63 → Represents depth cs base (open_before cs p) n → IsReachedStack n
retained-before depth cs base p n d b l r = record {
  depth = depth;
  classes = cs;
  para_level = base;
  initiators =
      open_before cs p;
  represents = r;
  base = b;
  within = d;
  few = omega (arith, before-few cs p);
}

-- the chain is the same list in reverse
chain-filtered : (t : ℕ → Bool) (p : ℕ) → filter t (positions_from 0 p) ≡ reverse (filter t (below p))
chain-filtered t zero = refl
chain-filtered t (suc p) =
    let more : positions_from 0 (suc p) ≡ positions_from 0 p ++ p ∷ [] = positions_from-next 0 p ∙
    ap (λ k. positions_from 0 p ++ k ∷ []) (zero-add p) in
    ap (filter t) more
    ∙ filter-append t (positions_from 0 p) (p ∷ [])
    ∙ elim (cases_Bool (t p)) [
      | inl u ↦ rw u (ap (λ xs. xs ++ p ∷ []) (chain-filtered t p) ∙ sym (reverse-append (p ∷ []) (filter t (below p))))
      | inr u ↦ rw u (append-nil (filter t (positions_from 0 p)) ∙ chain-filtered t p)
    ]

pub chain-reversed : (cs : List Class) (p : ℕ) → chain cs p ≡ reverse (holders cs p)
unfolding chain
chain-reversed cs p = chain-filtered (holds cs p) p

-- what the stack represents after p, and the level and the class at p
pub record IsPassedAt (depth : ℕ) (cs : List Class) (base p : ℕ) (leveled : Option (ℕ × Class))
    (n : StatusStack) : Type 0 where
  pub keeps : Represents depth cs base (open_before cs (p + 1)) n
  pub found : leveled ≡ explicit_at depth cs base p

pub passed-is : (depth : ℕ) (cs : List Class) (base p : ℕ) (class : Class) (leveled : Option (ℕ × Class))
    (n : StatusStack) → p < length cs → class ≡ class_at cs p →
    IsPassed depth cs base (still_open cs class (open_before cs p)) p class leveled n →
    IsPassedAt depth cs base p leveled n
passed-is depth cs base p class leveled n l e passed =
    let remaining : still_open cs class (open_before cs p) ≡ holders cs p =
    ap (λ k. still_open cs k (open_before cs p)) e ∙ still_open_before cs p l in
    let P : List ℕ → Type 0 = λ qs. Represents depth cs base qs n in
    record {
      keeps = subst P (ap (opened cs p) remaining ∙ open_before-next cs p) passed.retained;
      found = passed.found
          ∙ ap (λ qs. leveled_in (state_within depth cs base qs) base class) remaining
          ∙ ap (λ own. leveled_in (state_within depth cs base (holders cs p)) base own) e
          ∙ explicit-leveled_in depth cs base p;
    }

-- one position more has its level and class
pub explicit-more : (depth : ℕ) (cs : List Class) (base p : ℕ) (explicit : List (Option (ℕ × Class)))
    (leveled : Option (ℕ × Class)) → p < length explicit → leveled ≡ explicit_at depth cs base p →
    ((k : ℕ) → k < p → get_or explicit k None ≡ explicit_at depth cs base k) → (k : ℕ) → k < p + 1 →
    get_or (set explicit p leveled) k None ≡ explicit_at depth cs base k
explicit-more depth cs base p explicit leveled room found below k h = grind (arith, get_or-set_same, get_or-set_other)

-- X6: what an ordinary class is not
pub record IsPassedOver (c : Class) : Type 0 where
  pub pdi_is : is_pdi c ≡ false
  pub pdf_is : is_pdf c ≡ false
  pub initiator_is : is_initiator c ≡ false
  pub removed_is : is_removed c ≡ false
  pub separator_is : is_separator c ≡ false

over : (c : Class) → is_pdi c ≡ false → is_pdf c ≡ false → is_initiator c ≡ false → is_removed c ≡ false →
    is_separator c ≡ false → IsPassedOver c
over c a b d e f = record { pdi_is = a; pdf_is = b; initiator_is = d; removed_is = e; separator_is = f }

pub ordinary_is : (c : Class) → is_ordinary c ≡ true → IsPassedOver c
ordinary_is L h = over L refl refl refl refl refl
ordinary_is R h = over R refl refl refl refl refl
ordinary_is AL h = over AL refl refl refl refl refl
ordinary_is EN h = over EN refl refl refl refl refl
ordinary_is ES h = over ES refl refl refl refl refl
ordinary_is ET h = over ET refl refl refl refl refl
ordinary_is AN h = over AN refl refl refl refl refl
ordinary_is CS h = over CS refl refl refl refl refl
ordinary_is NSM h = over NSM refl refl refl refl refl
ordinary_is S h = over S refl refl refl refl refl
ordinary_is WS h = over WS refl refl refl refl refl
ordinary_is ON h = over ON refl refl refl refl refl
ordinary_is c h = absurd (cc)

pub ordinary_still_open : (cs : List Class) (c : Class) (qs : List ℕ) → is_ordinary c ≡ true → still_open cs c qs ≡ qs
ordinary_still_open cs c qs h = let o = ordinary_is c h in rw (o.pdi_is, o.pdf_is) refl

pub ordinary_opened : (cs : List Class) (p : ℕ) (qs : List ℕ) → is_ordinary (class_at cs p) ≡ true → opened cs p qs ≡ qs
ordinary_opened cs p qs h = let o = ordinary_is (class_at cs p) h in rw o.initiator_is refl

-- X9: there is none exactly if the position is removed
leveled_in-none : (s : State) (para : ℕ) (own : Class) → is_none (leveled_in s para own) ≡ is_removed own
leveled_in-none s para own = grind arith

pub explicit-none : (depth : ℕ) (cs : List Class) (para p : ℕ) →
    is_none (explicit_at depth cs para p) ≡ is_removed (class_at cs p)
explicit-none depth cs para p = ap is_none (sym (explicit-leveled_in depth cs para p)) ∙
    leveled_in-none (state_within depth cs para (holders cs p)) para (class_at cs p)
