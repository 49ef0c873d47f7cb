-- The initiators around a matched isolate initiator are those around its PDI.
use Rattle.std.proofs.Common.{◌≡◌, ℕ, zero, suc, ◌+◌, ◌<◌, ◌≤◌, Bool, true, false, List, [], ◌∷◌, length, arith, refl, sym, ap, subst, ◌∙◌, inl, inr}
use Rattle.std.specs.Prelude.{Option, Some, filter, ◌==◌, IfSome}
use Rattle.std.specs.List.{list_any}
use Rattle.std.proofs.lemmas.Bool.{cases_Bool, false≢true, lt-ltb, le-ltb, eq-eqb, ne_eqb, eqb-true}
use Rattle.units.specs.Classes.{class_at, is_isolate_initiator, is_pdi, is_removed, is_separator}
use Rattle.units.specs.Isolates.{matching_pdi, isolate_holds}
use Rattle.std.specs.Option.{option_map}
use Rattle.units.specs.Explicit.{State, explicit_at}
use Rattle.units.specs.declared.class.Class.{Class}
use Rattle.units.specs.declared.class.Class.TheVariants.{LRI, RLI, FSI, PDI}
use Rattle.explicit.proofs.Holders.Taken.{level-bound}
use Rattle.explicit.specs.OpenInitiators.{is_isolate, opened, past_isolate, still_open}
use Rattle.explicit.specs.StatusStacks.{state_within, leveled_in}
use Rattle.explicit.proofs.Matched.Matching.{matching_pdi_opens}
use Rattle.explicit.proofs.Matched.Nesting.{match_bounds, match_is_pdi}
use Rattle.explicit.proofs.Matched.StillOpen.{bit}
use Rattle.explicit.proofs.Holders.Roles.{IsOfKinds, Role, role, opens_isolate, opens_embedding, closes_isolate, closes_embedding, plain}
use Rattle.explicit.proofs.Holders.Open.{below, holders}
use Rattle.explicit.proofs.Holders.OpenIsolates.{AllBelow, OpenIsolates, OpenIsolates-next, holds-open_isolate}
use Rattle.explicit.proofs.Holders.IsolatesAfter.{still_open-keeps}
use Rattle.explicit.proofs.Holders.HoldersAfter.{holders-are_open, holders-step}
use Rattle.explicit.proofs.LevelsComputed.ExplicitAt.{explicit-leveled_in}

-- each is followed by the initiators around it
abbrev pub Stacked : List Class → List ℕ → Type 0
Stacked cs [] = Unit {0}
Stacked cs (q ∷ qs) = (qs ≡ holders cs q) × Stacked cs qs

opened-stacked : (cs : List Class) (y : ℕ) → Stacked cs (holders cs y) → Stacked cs (opened cs y (holders cs y))
opened-stacked cs y h = grind arith

pub holders-stacked : (cs : List Class) (y : ℕ) → y < length cs → Stacked cs (holders cs y)
holders-stacked cs zero l = tt
holders-stacked cs (suc y) l =
    rw (holders-step cs y l) (still_open-keeps cs (λ qs. Stacked cs qs) (λ q qs h. h.1) (class_at cs (suc y))
    (opened cs y (holders cs y)) (opened-stacked cs y (holders-stacked cs y (omega arith))))

abbrev pub is_among : ℕ → List ℕ → Bool
is_among i qs = list_any (λ q. q == i) qs

pub among-filtered : (t : ℕ → Bool) (i y : ℕ) → i < y → t i ≡ true → is_among i (filter t (below y)) ≡ true
among-filtered t i zero l h = absurd (omega arith)
among-filtered t i (suc y) l h = grind (arith, eq-eqb, ne_eqb, among-filtered t i y)

ends-there : (cs : List Class) (i j : ℕ) → matching_pdi cs i ≡ Some j → isolate_holds cs i j ≡ false
unfolding isolate_holds
ends-there cs i j h = let m = match_bounds cs i j h in
    rw (h, matching_pdi_opens cs i j h, lt-ltb i j m.0, le-ltb j j (omega arith)) refl

pub holds-before : (cs : List Class) (i j y : ℕ) → matching_pdi cs i ≡ Some j → i < y → y < j →
    isolate_holds cs i y ≡ true
unfolding isolate_holds
holds-before cs i j y h a b = rw (h, matching_pdi_opens cs i j h, lt-ltb i y a, lt-ltb y j b) refl

-- the initiator is among the open ones before its PDI
among-open : (cs : List Class) (i y : ℕ) → matching_pdi cs i ≡ Some (suc y) →
    is_among i (opened cs y (holders cs y)) ≡ true
among-open cs i y h = grind (arith, match_bounds, matching_pdi_opens, eq-eqb, among-filtered, holds-before, ne_eqb)

open-holds : (cs : List Class) (i y k : ℕ) (qs : List ℕ) → AllBelow y qs → OpenIsolates cs y k qs →
    is_isolate cs i ≡ true → is_among i qs ≡ true → isolate_holds cs i y ≡ true
open-holds cs i y k [] a o u m = absurd (false≢true m)
open-holds cs i y k (q ∷ qs) a o u m =
    elim (cases_Bool (q == i)) [
      | inl e ↦
          let s : q ≡ i = eqb-true q i e in
          let P : ℕ → Type 0 = λ x. isolate_holds cs x y ≡ true in
          let v : is_isolate cs q ≡ true = ap (is_isolate cs) s ∙ u in
          subst P s (holds-open_isolate cs y k q a.0 v (o.0 v))
      | inr e ↦ open-holds cs i y (bit (is_isolate cs q) + k) qs a.1 o.1 u (rw e at m)
    ]

-- the isolate that the PDI closes is the innermost, and the initiators around it are around the PDI
past-matched : (cs : List Class) (i y : ℕ) (qs : List ℕ) → AllBelow (suc y) qs → suc y < length cs →
    IsOfKinds (class_at cs (suc y)) false false true false → OpenIsolates cs y 0 qs → Stacked cs qs →
    is_isolate cs i ≡ true → is_among i qs ≡ true → isolate_holds cs i (suc y) ≡ false →
    past_isolate cs qs ≡ holders cs i
past-matched cs i y [] a l r o s u m h = absurd (false≢true m)
past-matched cs i y (q ∷ qs) a l r o s u m h =
    elim (cases_Bool (q == i)) [
      | inl e ↦
          let v : is_isolate cs q ≡ true = ap (is_isolate cs) (eqb-true q i e) ∙ u in
          rw v (s.0 ∙ ap (holders cs) (eqb-true q i e))
      | inr e ↦ elim (cases_Bool (is_isolate cs q)) [
        | inl v ↦ absurd (false≢true (sym h ∙
            open-holds cs i (suc y) 0 qs a.1 (OpenIsolates-next cs y 1 0 qs a.1 (rw (r.isolate_is, r.pdi_is) refl)
            (rw v at o.1)) u (rw e at m)))
        | inr v ↦ rw v (past-matched cs i y qs a.1 l r (rw v at o.1) s.1 u (rw e at m) h)
      ]
    ]

isolate-among : (cs : List Class) (i : ℕ) (qs : List ℕ) → is_isolate cs i ≡ true → is_among i qs ≡ true →
    list_any (is_isolate cs) qs ≡ true
isolate-among cs i [] u m = absurd (false≢true m)
isolate-among cs i (q ∷ qs) u m = grind (arith, eqb-true, isolate-among cs i qs u)

-- what its PDI leaves open is what is around the initiator
closed : (cs : List Class) (i y : ℕ) → matching_pdi cs i ≡ Some (suc y) → Role (class_at cs (suc y)) →
    holders cs (suc y) ≡ holders cs i
closed cs i y h (opens_isolate r) = absurd (false≢true (sym r.pdi_is ∙ match_is_pdi cs i (suc y) h))
closed cs i y h (opens_embedding r) = absurd (false≢true (sym r.pdi_is ∙ match_is_pdi cs i (suc y) h))
closed cs i y h (closes_embedding r) = absurd (false≢true (sym r.pdi_is ∙ match_is_pdi cs i (suc y) h))
closed cs i y h (plain r) = absurd (false≢true (sym r.pdi_is ∙ match_is_pdi cs i (suc y) h))
closed cs i y h (closes_isolate r) =
    let b = match_bounds cs i (suc y) h in
    let qs : List ℕ = opened cs y (holders cs y) in
    let o = holders-are_open cs y (omega (arith, b.1)) in
    let opener = matching_pdi_opens cs i (suc y) h in
    let v : list_any (is_isolate cs) qs ≡ true = isolate-among cs i qs opener (among-open cs i y h) in
    let s = opened-stacked cs y (holders-stacked cs y (omega (arith, b.1))) in
    let remaining : still_open cs (class_at cs (suc y)) qs ≡ past_isolate cs qs = rw (r.pdi_is, v) refl in
    holders-step cs y b.1 ∙ remaining ∙
    past-matched cs i y qs o.bound b.1 r o.isolates s opener (among-open cs i y h) (ends-there cs i (suc y) h)

-- both have the same initiators around them
pub holders-matched : (cs : List Class) (i j : ℕ) → matching_pdi cs i ≡ Some j → holders cs j ≡ holders cs i
holders-matched cs i zero h = absurd (let b = match_bounds cs i 0 h in omega (arith, b.0))
holders-matched cs i (suc y) h = closed cs i y h (role (class_at cs (suc y)))

pub level-leveled_in : (depth : ℕ) (cs : List Class) (para p : ℕ) → is_removed (class_at cs p) ≡ false →
    is_separator (class_at cs p) ≡ false →
    option_map (λ x. x.0) (explicit_at depth cs para p) ≡ Some (state_within depth cs para (holders cs p)).level
level-leveled_in depth cs para p r s = ap (option_map (λ x. x.0)) (sym (explicit-leveled_in depth cs para p)) ∙
    rw (r, s) refl

isolate-remains : (c : Class) → is_isolate_initiator c ≡ true → (is_removed c ≡ false) × (is_separator c ≡ false)
isolate-remains LRI h = (refl, refl)
isolate-remains RLI h = (refl, refl)
isolate-remains FSI h = (refl, refl)
isolate-remains c h = absurd (cc)

pdi-remains : (c : Class) → is_pdi c ≡ true → (is_removed c ≡ false) × (is_separator c ≡ false)
pdi-remains PDI h = (refl, refl)
pdi-remains c h = absurd (cc)

-- an isolate initiator has the level inside the initiators around it
pub level-of_isolate : (depth : ℕ) (cs : List Class) (para i : ℕ) → is_isolate cs i ≡ true →
    option_map (λ x. x.0) (explicit_at depth cs para i) ≡ Some (state_within depth cs para (holders cs i)).level
level-of_isolate depth cs para i h = let a = isolate-remains (class_at cs i) h in
    level-leveled_in depth cs para i a.0 a.1

-- so their levels are equal
pub levels-matched : (depth : ℕ) (cs : List Class) (para i j : ℕ) → matching_pdi cs i ≡ Some j →
    option_map (λ x. x.0) (explicit_at depth cs para i) ≡ option_map (λ x. x.0) (explicit_at depth cs para j)
levels-matched depth cs para i j h =
    grind (arith, pdi-remains, match_is_pdi, level-of_isolate, matching_pdi_opens, holders-matched, level-leveled_in)

leveled_in-bounded : (s : State) (para : ℕ) (own : Class) (most : ℕ) → s.level ≤ most → para ≤ most →
    IfSome (leveled_in s para own) (λ leveled. leveled.0 ≤ most)
leveled_in-bounded s para own most a b = grind arith

-- a number that is at least the depth and at least the paragraph's level is at least each explicit level
pub level-at_most : (depth : ℕ) (cs : List Class) (para p most : ℕ) → depth ≤ most → para ≤ most →
    IfSome (explicit_at depth cs para p) (λ leveled. leveled.0 ≤ most)
level-at_most depth cs para p most d b =
    let P : Option (ℕ × Class) → Type 0 = λ o. IfSome o (λ leveled. leveled.0 ≤ most) in
    subst P (explicit-leveled_in depth cs para p) (leveled_in-bounded (state_within depth cs para (holders cs p)) para
    (class_at cs p) most (level-bound depth cs para (holders cs p) most d b) b)
