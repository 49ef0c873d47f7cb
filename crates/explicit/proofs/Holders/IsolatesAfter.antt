-- The isolates that the class at the next position leaves open.
use Rattle.std.proofs.Common.{arith, ◌≡◌, ℕ, suc, ◌+◌, ◌<◌, false, List, [], ◌∷◌, length, refl, sym, ◌∙◌, inl, inr}
use Rattle.std.specs.Prelude.{find}
use Rattle.std.specs.List.{list_any}
use Rattle.std.proofs.lemmas.Bool.{cases_Bool, false≢true}
use Rattle.units.specs.Classes.{class_at, is_pdi, is_pdf}
use Rattle.units.specs.Isolates.{isolate_holds}
use Rattle.units.specs.declared.class.Class.{Class}
use Rattle.explicit.proofs.Matched.StillOpen.{bit}
use Rattle.explicit.proofs.Holders.Roles.{Role, opens_isolate, opens_embedding, closes_isolate, closes_embedding, plain}
use Rattle.explicit.specs.OpenInitiators.{is_isolate, past_isolate, after_pdf, still_open}
use Rattle.explicit.proofs.Holders.Open.{innermost}
use Rattle.explicit.proofs.Holders.OpenIsolates.{AllBelow, OpenIsolates, OpenIsolates-next, OpenIsolates-closed, find-open, find-closed, innermost-none, innermost-past_none}

past_isolate-keeps : (cs : List Class) (P : List ℕ → Type 0) → ((q : ℕ) (qs : List ℕ) → P (q ∷ qs) → P qs) →
    (qs : List ℕ) → P qs → P (past_isolate cs qs)
past_isolate-keeps cs P rest [] h = h
past_isolate-keeps cs P rest (q ∷ qs) h = grind (arith, past_isolate-keeps cs P rest qs (rest q qs h))

after_pdf-keeps : (cs : List Class) (P : List ℕ → Type 0) → ((q : ℕ) (qs : List ℕ) → P (q ∷ qs) → P qs) →
    (qs : List ℕ) → P qs → P (after_pdf cs qs)
after_pdf-keeps cs P rest [] h = h
after_pdf-keeps cs P rest (q ∷ qs) h = grind arith

-- if a property of a list implies that of its rest, then it also holds for what remains open
pub still_open-keeps : (cs : List Class) (P : List ℕ → Type 0) → ((q : ℕ) (qs : List ℕ) → P (q ∷ qs) → P qs) →
    (c : Class) (qs : List ℕ) → P qs → P (still_open cs c qs)
still_open-keeps cs P rest c qs h =
    let past = past_isolate-keeps cs P rest qs h in
    let pdf = after_pdf-keeps cs P rest qs h in
    elim (cases_Bool (is_pdi c)) [
      | inl u ↦ rw u (elim (cases_Bool (list_any (is_isolate cs) qs)) [
        | inl v ↦ rw v past
        | inr v ↦ rw v h
      ])
      | inr u ↦ rw u (elim (cases_Bool (is_pdf c)) [
        | inl v ↦ rw v pdf
        | inr v ↦ rw v h
      ])
    ]

OpenIsolates-none : (cs : List Class) (y k : ℕ) (qs : List ℕ) → list_any (is_isolate cs) qs ≡ false →
    OpenIsolates cs y k qs
OpenIsolates-none cs y k [] e = tt
OpenIsolates-none cs y k (q ∷ qs) e = grind (arith, false≢true, OpenIsolates-none cs y (bit (is_isolate cs q) + k) qs)

OpenIsolates-after_pdf : (cs : List Class) (y : ℕ) (qs : List ℕ) → OpenIsolates cs y 0 qs →
    OpenIsolates cs y 0 (after_pdf cs qs)
OpenIsolates-after_pdf cs y [] h = h
OpenIsolates-after_pdf cs y (q ∷ qs) h = grind arith

innermost-after_pdf : (cs : List Class) (qs : List ℕ) → innermost cs (after_pdf cs qs) ≡ innermost cs qs
innermost-after_pdf cs [] = refl
innermost-after_pdf cs (q ∷ qs) = grind arith

abbrev pub RemainOpen : List Class → ℕ → List ℕ → List ℕ
RemainOpen cs y qs = still_open cs (class_at cs (suc y)) qs

pub isolates-remaining : (cs : List Class) (y : ℕ) (qs : List ℕ) → Role (class_at cs (suc y)) → AllBelow (suc y) qs →
    OpenIsolates cs y 0 qs → OpenIsolates cs (suc y) (bit (is_isolate cs (suc y))) (RemainOpen cs y qs)
isolates-remaining cs y qs (opens_isolate r) a h =
    rw (r.pdi_is, r.pdf_is, r.isolate_is) (OpenIsolates-next cs y 0 1 qs a (rw (r.isolate_is, r.pdi_is) refl) h)
isolates-remaining cs y qs (opens_embedding r) a h =
    rw (r.pdi_is, r.pdf_is, r.isolate_is) (OpenIsolates-next cs y 0 0 qs a (rw (r.isolate_is, r.pdi_is) refl) h)
isolates-remaining cs y qs (plain r) a h =
    rw (r.pdi_is, r.pdf_is, r.isolate_is) (OpenIsolates-next cs y 0 0 qs a (rw (r.isolate_is, r.pdi_is) refl) h)
isolates-remaining cs y qs (closes_embedding r) a h =
    rw (
      r.pdi_is,
      r.pdf_is,
      r.isolate_is,
    ) (OpenIsolates-after_pdf cs (suc y) qs (OpenIsolates-next cs y 0 0 qs a (rw (
      r.isolate_is,
      r.pdi_is,
    ) refl) h))
isolates-remaining cs y qs (closes_isolate r) a h =
    elim (cases_Bool (list_any (is_isolate cs) qs)) [
      | inl v ↦ rw (r.pdi_is, r.isolate_is, v) (OpenIsolates-closed cs y qs a r h)
      | inr v ↦ rw (r.pdi_is, r.isolate_is, v) (OpenIsolates-none cs (suc y) 0 qs v)
    ]

pub find-remaining : (cs : List Class) (y : ℕ) (qs : List ℕ) → Role (class_at cs (suc y)) → AllBelow (suc y) qs →
    suc y < length cs → OpenIsolates cs y 0 qs →
    find (λ q. isolate_holds cs q (suc y)) qs ≡ innermost cs (RemainOpen cs y qs)
find-remaining cs y qs (opens_isolate r) a b h =
    rw (r.pdi_is, r.pdf_is)
    (find-open cs (suc y) 1 qs a (OpenIsolates-next cs y 0 1 qs a (rw (r.isolate_is, r.pdi_is) refl) h))
find-remaining cs y qs (opens_embedding r) a b h =
    rw (r.pdi_is, r.pdf_is)
    (find-open cs (suc y) 0 qs a (OpenIsolates-next cs y 0 0 qs a (rw (r.isolate_is, r.pdi_is) refl) h))
find-remaining cs y qs (plain r) a b h =
    rw (r.pdi_is, r.pdf_is)
    (find-open cs (suc y) 0 qs a (OpenIsolates-next cs y 0 0 qs a (rw (r.isolate_is, r.pdi_is) refl) h))
find-remaining cs y qs (closes_embedding r) a b h =
    rw (r.pdi_is, r.pdf_is)
    (find-open cs (suc y) 0 qs a (OpenIsolates-next cs y 0 0 qs a (rw (r.isolate_is, r.pdi_is) refl) h) ∙
    sym (innermost-after_pdf cs qs))
find-remaining cs y qs (closes_isolate r) a b h = grind (arith, find-closed, innermost-past_none, innermost-none)
