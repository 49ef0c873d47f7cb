-- The open isolates and their counts: what the next position does to them.
use Rattle.std.proofs.Common.{◌≡◌, ℕ, suc, ◌+◌, ◌<◌, ◌≤◌, true, false, List, [], ◌∷◌, length, arith, refl, ap, ◌∙◌, inl, inr}
use Rattle.std.specs.Prelude.{None, find}
use Rattle.std.specs.List.{list_any}
use Rattle.std.proofs.lemmas.Bool.{cases_Bool, lt-ltb, false≢true}
use Rattle.units.specs.Positions.{is_before}
use Rattle.units.specs.Classes.{class_at, is_pdi}
use Rattle.units.specs.Isolates.{isolate_holds}
use Rattle.units.specs.declared.class.Class.{Class}
use Rattle.explicit.proofs.Matched.Matching.{opens_at, closes_at, matching_pdi_of}
use Rattle.explicit.proofs.Matched.StillOpen.{bit, IsOpenAt, open_first, open_next, open_closed, before_match, at_match}
use Rattle.explicit.proofs.Holders.Roles.{IsOfKinds}
use Rattle.explicit.specs.OpenInitiators.{is_isolate, past_isolate}
use Rattle.explicit.proofs.Holders.Open.{innermost}

-- each position is below this one
abbrev pub AllBelow : ℕ → List ℕ → Type 0
AllBelow b [] = Unit {0}
AllBelow b (q ∷ qs) = (q < b) × AllBelow b qs

pub AllBelow-weaker : (a b : ℕ) (qs : List ℕ) → a ≤ b → AllBelow a qs → AllBelow b qs
AllBelow-weaker a b [] l h = tt
AllBelow-weaker a b (q ∷ qs) l h = let k : q < a = h.0 in (omega arith, AllBelow-weaker a b qs l h.1)

-- the isolate at q is open after y, with k more in it
abbrev pub IsOpenIsolate : List Class → ℕ → ℕ → ℕ → Type 0
IsOpenIsolate cs y k q = IsOpenAt (opens_at cs) (closes_at cs) (suc y) (suc k) q

-- the isolates among these are open after y, with k more in the first
abbrev pub OpenIsolates : List Class → ℕ → ℕ → List ℕ → Type 0
OpenIsolates cs y k [] = Unit {0}
OpenIsolates cs y k (q ∷ qs) = (is_isolate cs q ≡ true → IsOpenIsolate cs y k q) ×
    OpenIsolates cs y (bit (is_isolate cs q) + k) qs

-- an isolate that opens at y
pub open_isolate-first : (cs : List Class) (y : ℕ) → IsOfKinds (class_at cs y) true false false false →
    IsOpenIsolate cs y 0 y
open_isolate-first cs y r = open_first (opens_at cs) (closes_at cs) y r.isolate_is r.pdi_is

-- an isolate that was open, at the next position
pub OpenIsolates-next : (cs : List Class) (y k m : ℕ) (qs : List ℕ) → AllBelow (suc y) qs →
    bit (is_isolate cs (suc y)) + k ≡ bit (is_pdi (class_at cs (suc y))) + m → OpenIsolates cs y k qs →
    OpenIsolates cs (suc y) m qs
OpenIsolates-next cs y k m [] a e h = tt
OpenIsolates-next cs y k m (q ∷ qs) a e h =
    let l : q < suc y = a.0 in (
      λ u. open_next (opens_at cs) (closes_at cs) (suc y) (suc k) m q l (h.0 u) (omega (arith, e)),
      OpenIsolates-next cs y (bit (is_isolate cs q) + k) (bit (is_isolate cs q) + m) qs a.1 (omega arith) h.1,
    )

-- a PDI at the next position closes the innermost, and leaves those around it
pub OpenIsolates-closed : (cs : List Class) (y : ℕ) (qs : List ℕ) → AllBelow (suc y) qs →
    IsOfKinds (class_at cs (suc y)) false false true false → OpenIsolates cs y 0 qs →
    OpenIsolates cs (suc y) 0 (past_isolate cs qs)
OpenIsolates-closed cs y [] a r h = tt
OpenIsolates-closed cs y (q ∷ qs) a r h =
    elim (cases_Bool (is_isolate cs q)) [
      | inl u ↦ rw u (OpenIsolates-next cs y 1 0 qs a.1 (rw (r.isolate_is, r.pdi_is) refl) (rw u at h.1))
      | inr u ↦ rw u (OpenIsolates-closed cs y qs a.1 r (rw u at h.1))
    ]

pub holds-open_isolate : (cs : List Class) (y k q : ℕ) → q < y → is_isolate cs q ≡ true → IsOpenIsolate cs y k q →
    isolate_holds cs q y ≡ true
unfolding isolate_holds
holds-open_isolate cs y k q l u h = grind (arith, matching_pdi_of, before_match, lt-ltb)

pub holds-not_isolate : (cs : List Class) (y q : ℕ) → is_isolate cs q ≡ false → isolate_holds cs q y ≡ false
unfolding isolate_holds
holds-not_isolate cs y q u = rw u refl

-- a PDI matches the innermost open isolate
pub holds-closed_isolate : (cs : List Class) (y q : ℕ) → q ≤ y → suc y < length cs → is_isolate cs q ≡ true →
    IsOfKinds (class_at cs (suc y)) false false true false → IsOpenIsolate cs y 0 q → isolate_holds cs q (suc y) ≡ false
unfolding isolate_holds
holds-closed_isolate cs y q a b u r h =
    let now = open_closed (opens_at cs) (closes_at cs) (suc y) 1 q (omega arith) h (rw (r.isolate_is, r.pdi_is) refl) in
    let ended = ap (is_before (suc y)) (matching_pdi_of cs q u) ∙
    at_match (opens_at cs) (closes_at cs) (suc y) (length cs) q b now in
    rw (u, lt-ltb q (suc y) (omega arith), ended) refl

-- the innermost open isolate is the first one around the next position
pub find-open : (cs : List Class) (y k : ℕ) (qs : List ℕ) → AllBelow y qs → OpenIsolates cs y k qs →
    find (λ q. isolate_holds cs q y) qs ≡ innermost cs qs
find-open cs y k [] a h = refl
find-open cs y k (q ∷ qs) a h =
    elim (cases_Bool (is_isolate cs q)) [
      | inl u ↦ rw (u, holds-open_isolate cs y k q a.0 u (h.0 u)) refl
      | inr u ↦ rw (u, holds-not_isolate cs y q u) (find-open cs y (bit (is_isolate cs q) + k) qs a.1 h.1)
    ]

pub find-closed : (cs : List Class) (y : ℕ) (qs : List ℕ) → AllBelow (suc y) qs → suc y < length cs →
    IsOfKinds (class_at cs (suc y)) false false true false → OpenIsolates cs y 0 qs →
    find (λ q. isolate_holds cs q (suc y)) qs ≡ innermost cs (past_isolate cs qs)
find-closed cs y [] a b r h = refl
find-closed cs y (q ∷ qs) a b r h =
    let l : q < suc y = a.0 in
    elim (cases_Bool (is_isolate cs q)) [
      | inl u ↦ rw (u, holds-closed_isolate cs y q (omega arith) b u r (h.0 u))
          (find-open cs (suc y) 0 qs a.1 (OpenIsolates-next cs y 1 0 qs a.1 (rw (r.isolate_is, r.pdi_is) refl)
          (rw u at h.1)))
      | inr u ↦ rw (u, holds-not_isolate cs (suc y) q u) (find-closed cs y qs a.1 b r (rw u at h.1))
    ]

pub innermost-none : (cs : List Class) (qs : List ℕ) → list_any (is_isolate cs) qs ≡ false → innermost cs qs ≡ None
innermost-none cs [] e = refl
innermost-none cs (q ∷ qs) e = grind (arith, false≢true, innermost-none cs qs)

pub innermost-past_none : (cs : List Class) (qs : List ℕ) → list_any (is_isolate cs) qs ≡ false →
    past_isolate cs qs ≡ []
innermost-past_none cs [] e = refl
innermost-past_none cs (q ∷ qs) e = grind (arith, false≢true, innermost-past_none cs qs)
