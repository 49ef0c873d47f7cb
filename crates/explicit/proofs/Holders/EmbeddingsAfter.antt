-- The initiators that the class at the next position leaves open are those around it, embeddings included.
use Rattle.std.proofs.Common.{◌≡◌, ℕ, suc, ◌+◌, ◌<◌, true, false, List, [], ◌∷◌, length, arith, refl, sym, ◌∙◌, cond, inl, inr}
use Rattle.std.specs.Prelude.{filter}
use Rattle.std.specs.List.{list_any}
use Rattle.std.proofs.lemmas.Bool.{cases_Bool, false≢true}
use Rattle.units.specs.Classes.{class_at, is_embedding_initiator}
use Rattle.units.specs.Isolates.{isolate_around}
use Rattle.units.specs.Explicit.{lies_in}
use Rattle.units.specs.declared.class.Class.{Class}
use Rattle.explicit.proofs.Matched.StillOpen.{bit}
use Rattle.explicit.proofs.Holders.Roles.{IsOfKinds, Role, opens_isolate, opens_embedding, closes_isolate, closes_embedding, plain, isolate_not_embedding}
use Rattle.explicit.specs.OpenInitiators.{is_isolate, past_isolate, after_pdf}
use Rattle.explicit.proofs.Holders.Open.{holds, innermost}
use Rattle.explicit.proofs.Holders.OpenIsolates.{AllBelow, OpenIsolates, holds-open_isolate, holds-not_isolate, holds-closed_isolate}
use Rattle.explicit.proofs.Holders.IsolatesAfter.{RemainOpen, still_open-keeps}
use Rattle.explicit.proofs.Holders.OpenEmbeddings.{OpenEmbeddings, Nested, OpenEmbeddings-next, OpenEmbeddings-around, holds-open_embedding, holds-not_embedding, holds-past_isolate, holds-closed_embedding}

OpenEmbeddings-past : (cs : List Class) (y k : ℕ) (qs : List ℕ) → list_any (is_isolate cs) qs ≡ true →
    OpenEmbeddings cs y k qs → OpenEmbeddings cs y 0 (past_isolate cs qs)
OpenEmbeddings-past cs y k [] v h = tt
OpenEmbeddings-past cs y k (q ∷ qs) v h = grind (arith, OpenEmbeddings-past cs y (suc k) qs)

-- the properties of the initiators that are open after y
pub record IsOpen (cs : List Class) (y : ℕ) (qs : List ℕ) : Type 0 where
  pub bound : AllBelow (suc y) qs
  pub isolates : OpenIsolates cs y 0 qs
  pub embeddings : OpenEmbeddings cs y 0 qs
  pub nested : Nested cs qs

pub embeddings-remaining : (cs : List Class) (y : ℕ) (qs : List ℕ) → Role (class_at cs (suc y)) → AllBelow (suc y) qs →
    Nested cs qs → isolate_around cs (suc y) ≡ innermost cs (RemainOpen cs y qs) → OpenEmbeddings cs y 0 qs →
    OpenEmbeddings cs (suc y) (bit (is_embedding_initiator (class_at cs (suc y)))) (RemainOpen cs y qs)
embeddings-remaining cs y qs (opens_isolate r) a n s h =
    rw (
      r.pdi_is,
      r.pdf_is,
      r.embedding_is,
    ) (OpenEmbeddings-next cs y 0 0 qs a n (rw (r.pdi_is, r.pdf_is) at s) (rw (
      r.embedding_is,
      r.pdf_is,
    ) refl) h)
embeddings-remaining cs y qs (opens_embedding r) a n s h =
    rw (
      r.pdi_is,
      r.pdf_is,
      r.embedding_is,
    ) (OpenEmbeddings-next cs y 0 1 qs a n (rw (r.pdi_is, r.pdf_is) at s) (rw (
      r.embedding_is,
      r.pdf_is,
    ) refl) h)
embeddings-remaining cs y qs (plain r) a n s h =
    rw (
      r.pdi_is,
      r.pdf_is,
      r.embedding_is,
    ) (OpenEmbeddings-next cs y 0 0 qs a n (rw (r.pdi_is, r.pdf_is) at s) (rw (
      r.embedding_is,
      r.pdf_is,
    ) refl) h)
embeddings-remaining cs y qs (closes_isolate r) a n s h =
    elim (cases_Bool (list_any (is_isolate cs) qs)) [
      | inl v ↦ rw (r.pdi_is, v, r.embedding_is) (
          let l = still_open-keeps cs (λ xs. AllBelow (suc y) xs × Nested cs xs) (λ q xs h.
          (h.0.1, h.1.2)) (class_at cs (suc y)) qs (a, n) in
          let m : AllBelow (suc y) (past_isolate cs qs) × Nested cs (past_isolate cs qs) = rw (r.pdi_is, v) at l in
          OpenEmbeddings-next cs y 0 0 (past_isolate cs qs) m.0 m.1 (rw (r.pdi_is, v) at s) (rw (
            r.embedding_is,
            r.pdf_is,
          ) refl) (OpenEmbeddings-past cs y 0 qs v h))
      | inr v ↦ rw (
        r.pdi_is,
        v,
        r.embedding_is,
      ) (OpenEmbeddings-next cs y 0 0 qs a n (rw (r.pdi_is, v) at s) (rw (
        r.embedding_is,
        r.pdf_is,
      ) refl) h)
    ]
embeddings-remaining cs y [] (closes_embedding r) a n s h = rw (r.pdi_is, r.pdf_is) tt
embeddings-remaining cs y (q ∷ qs) (closes_embedding r) a n s h =
    elim (cases_Bool (is_isolate cs q)) [
      | inl u ↦ rw (r.pdi_is, r.pdf_is, r.embedding_is, u) ((
        λ v. absurd (false≢true (sym v ∙ u)),
        rw u (OpenEmbeddings-around cs y q 0 qs a.1 n.2 n.1 (s ∙
            rw (r.pdi_is, r.pdf_is, u, u) refl) (rw u at h.1)),
      ))
      | inr u ↦ rw (r.pdi_is, r.pdf_is, r.embedding_is, u) (OpenEmbeddings-next cs y 1 0 qs a.1 n.2 (s ∙
          rw (r.pdi_is, r.pdf_is, u) refl) (rw (r.embedding_is, r.pdf_is) refl) (rw u at h.1))
    ]

lies-innermost : (cs : List Class) (y k : ℕ) (qs : List ℕ) → AllBelow y qs → OpenIsolates cs y k qs →
    lies_in cs (innermost cs qs) y ≡ true
lies-innermost cs y k [] a h = refl
lies-innermost cs y k (q ∷ qs) a h =
    elim (cases_Bool (is_isolate cs q)) [
      | inl u ↦ rw u (holds-open_isolate cs y k q a.0 u (h.0 u))
      | inr u ↦ rw u (lies-innermost cs y (bit (is_isolate cs q) + k) qs a.1 h.1)
    ]

lies-closed : (cs : List Class) (y : ℕ) (qs : List ℕ) → AllBelow (suc y) qs → suc y < length cs →
    IsOfKinds (class_at cs (suc y)) false false true false → list_any (is_isolate cs) qs ≡ true →
    OpenIsolates cs y 0 qs → lies_in cs (innermost cs qs) (suc y) ≡ false
lies-closed cs y [] a b r v h = absurd (false≢true v)
lies-closed cs y (q ∷ qs) a b r v h = grind (arith, holds-closed_isolate, lies-closed cs y qs a.1 b r)

-- an open initiator is around the position
pub filter-open : (cs : List Class) (y k m : ℕ) (qs : List ℕ) → AllBelow y qs → Nested cs qs → OpenIsolates cs y k qs →
    OpenEmbeddings cs y m qs → filter (holds cs y) qs ≡ qs
filter-open cs y k m [] a n i e = refl
filter-open cs y k m (q ∷ qs) a n i e =
    let ih = filter-open cs y (bit (is_isolate cs q) + k) (cond (is_isolate cs q) 0 (suc m)) qs a.1 n.2 i.1 e.1 in
    elim (cases_Bool (is_isolate cs q)) [
      | inl u ↦ rw (holds-open_isolate cs y k q a.0 u (i.0 u), ih) refl
      | inr u ↦
          let l : lies_in cs (isolate_around cs q) y ≡ true =
          rw n.0 (lies-innermost cs y (bit (is_isolate cs q) + k) qs a.1 i.1) in
          rw (holds-not_isolate cs y q u, holds-open_embedding cs y m q a.0 (e.0 u) l, ih) refl
    ]

-- an initiator that a PDI closes is not
filter-closed : (cs : List Class) (y : ℕ) (qs : List ℕ) → AllBelow (suc y) qs → suc y < length cs →
    IsOfKinds (class_at cs (suc y)) false false true false → list_any (is_isolate cs) qs ≡ true → Nested cs qs →
    OpenIsolates cs y 0 qs → filter (holds cs (suc y)) qs ≡ filter (holds cs (suc y)) (past_isolate cs qs)
filter-closed cs y [] a b r v n h = refl
filter-closed cs y (q ∷ qs) a b r v n h =
    grind (
      arith,
      holds-closed_isolate,
      holds-not_embedding,
      isolate_not_embedding,
      lies-closed,
      holds-not_isolate,
      holds-past_isolate,
      filter-closed cs y qs a.1 b r,
    )

-- nor is the embedding that a PDF closes
filter-after_pdf : (cs : List Class) (y : ℕ) (qs : List ℕ) → IsOpen cs y qs → suc y < length cs →
    IsOfKinds (class_at cs (suc y)) false false false true →
    isolate_around cs (suc y) ≡ innermost cs (after_pdf cs qs) →
    filter (holds cs (suc y)) qs ≡ filter (holds cs (suc y)) (after_pdf cs qs)
filter-after_pdf cs y [] o b r s = refl
filter-after_pdf cs y (q ∷ qs) o b r s = grind (arith, holds-not_isolate, holds-closed_embedding)

pub filter-remaining : (cs : List Class) (y : ℕ) (qs : List ℕ) → Role (class_at cs (suc y)) → suc y < length cs →
    IsOpen cs y qs → isolate_around cs (suc y) ≡ innermost cs (RemainOpen cs y qs) →
    filter (holds cs (suc y)) qs ≡ filter (holds cs (suc y)) (RemainOpen cs y qs)
filter-remaining cs y qs (opens_isolate r) b o s = rw (r.pdi_is, r.pdf_is) refl
filter-remaining cs y qs (opens_embedding r) b o s = rw (r.pdi_is, r.pdf_is) refl
filter-remaining cs y qs (plain r) b o s = rw (r.pdi_is, r.pdf_is) refl
filter-remaining cs y qs (closes_embedding r) b o s =
    rw (r.pdi_is, r.pdf_is) (filter-after_pdf cs y qs o b r (rw (r.pdi_is, r.pdf_is) at s))
filter-remaining cs y qs (closes_isolate r) b o s = grind (arith, filter-closed)
