-- The open embeddings and their counts: what the next position does to them.
use Rattle.std.proofs.Common.{◌≡◌, ℕ, suc, ◌+◌, ◌<◌, ◌≤◌, Bool, true, false, List, [], ◌∷◌, length, arith, refl, sym, ap, ◌∙◌, cond, inl, inr}
use Rattle.std.specs.Prelude.{Some, nat_lt}
use Rattle.std.proofs.lemmas.Bool.{cases_Bool, lt-ltb, false≢true, ne_eqb, and_left, and_right}
use Rattle.units.specs.Positions.{is_before, same_position}
use Rattle.units.specs.Classes.{class_at, is_embedding_initiator, is_pdf}
use Rattle.units.specs.Isolates.{isolate_around}
use Rattle.units.specs.Explicit.{beside, matching_pdf, lies_in, embedding_holds}
use Rattle.units.specs.declared.class.Class.{Class}
use Rattle.units.proofs.Positions.{same_position_refl}
use Rattle.explicit.proofs.Matched.Embeddings.{opens_beside, closes_beside, opens_beside_itself, matching_pdf_is}
use Rattle.explicit.proofs.Matched.StillOpen.{bit, IsOpenAt, open_first, open_next, open_closed, before_match, at_match}
use Rattle.explicit.proofs.Holders.Roles.{IsOfKinds}
use Rattle.explicit.specs.OpenInitiators.{is_isolate}
use Rattle.explicit.proofs.Holders.Open.{innermost}
use Rattle.explicit.proofs.Holders.OpenIsolates.{AllBelow}

-- the embedding at q is open after y, with k more directly in its isolate
pub record IsOpenEmbedding (cs : List Class) (y k q : ℕ) : Type 0 where
  pub initiates : is_embedding_initiator (class_at cs q) ≡ true
  pub still : IsOpenAt (opens_beside cs q) (closes_beside cs q) (suc y) (suc k) q

-- the embeddings among these are open after y, with k more in the first
abbrev pub OpenEmbeddings : List Class → ℕ → ℕ → List ℕ → Type 0
OpenEmbeddings cs y k [] = Unit {0}
OpenEmbeddings cs y k (q ∷ qs) = (is_isolate cs q ≡ false → IsOpenEmbedding cs y k q) ×
    OpenEmbeddings cs y (cond (is_isolate cs q) 0 (suc k)) qs

-- each initiator comes after those that follow it in the list, directly in the first isolate that follows it
abbrev pub Nested : List Class → List ℕ → Type 0
Nested cs [] = Unit {0}
Nested cs (q ∷ qs) = (isolate_around cs q ≡ innermost cs qs) × AllBelow q qs × Nested cs qs

innermost-differs : (cs : List Class) (i : ℕ) (qs : List ℕ) → AllBelow i qs →
    same_position (Some i) (innermost cs qs) ≡ false
innermost-differs cs i [] a = refl
innermost-differs cs i (q ∷ qs) a = grind (arith, ne_eqb, innermost-differs cs i qs a.1)

pub open_embedding-first : (cs : List Class) (y : ℕ) → IsOfKinds (class_at cs y) false true false false →
    IsOpenEmbedding cs y 0 y
open_embedding-first cs y r = record {
  initiates = r.embedding_is;
  still = open_first (opens_beside cs y) (closes_beside cs y) y (opens_beside_itself cs y r.embedding_is)
      (and_left _ _ r.pdf_is);
}

-- if the next position is in another isolate, the embedding's count is unchanged; else the class there counts
open_embedding-next : (cs : List Class) (y k m q : ℕ) → q ≤ y → IsOpenEmbedding cs y k q →
    bit (beside cs is_embedding_initiator q (suc y)) + k ≡ bit (beside cs is_pdf q (suc y)) + m →
    IsOpenEmbedding cs (suc y) m q
open_embedding-next cs y k m q a h e = record {
  initiates = h.initiates;
  still = open_next (opens_beside cs q) (closes_beside cs q) (suc y) (suc k) m q (omega arith) h.still (omega (
    arith,
    e,
  ));
}

beside-elsewhere : (cs : List Class) (kind : Class → Bool) (q p : ℕ) →
    same_position (isolate_around cs p) (isolate_around cs q) ≡ false → beside cs kind q p ≡ false
beside-elsewhere cs kind q p h =
    and_right (kind (class_at cs p)) (same_position (isolate_around cs p) (isolate_around cs q)) h

beside-here : (cs : List Class) (kind : Class → Bool) (q p : ℕ) →
    same_position (isolate_around cs p) (isolate_around cs q) ≡ true → beside cs kind q p ≡ kind (class_at cs p)
beside-here cs kind q p h = grind arith

-- a position within the isolate at i changes nothing around i
pub OpenEmbeddings-around : (cs : List Class) (y i k : ℕ) (qs : List ℕ) → AllBelow (suc y) qs → Nested cs qs →
    AllBelow i qs → isolate_around cs (suc y) ≡ Some i → OpenEmbeddings cs y k qs → OpenEmbeddings cs (suc y) k qs
OpenEmbeddings-around cs y i k [] a n d s h = tt
OpenEmbeddings-around cs y i k (q ∷ qs) a n d s h =
    let l : q < suc y = a.0 in
    let x : same_position (isolate_around cs (suc y)) (isolate_around cs q) ≡ false =
    rw (s, n.0) (innermost-differs cs i qs d.1) in (
      λ u. open_embedding-next cs y k k q (omega arith) (h.0 u)
          (rw (beside-elsewhere cs is_embedding_initiator q (suc y) x, beside-elsewhere cs is_pdf q (suc y) x) refl),
      OpenEmbeddings-around cs y i (cond (is_isolate cs q) 0 (suc k)) qs a.1 n.2 d.1 s h.1,
    )

pub OpenEmbeddings-next : (cs : List Class) (y k m : ℕ) (qs : List ℕ) → AllBelow (suc y) qs → Nested cs qs →
    isolate_around cs (suc y) ≡ innermost cs qs →
    bit (is_embedding_initiator (class_at cs (suc y))) + k ≡ bit (is_pdf (class_at cs (suc y))) + m →
    OpenEmbeddings cs y k qs → OpenEmbeddings cs (suc y) m qs
OpenEmbeddings-next cs y k m [] a n s e h = tt
OpenEmbeddings-next cs y k m (q ∷ qs) a n s e h =
    let l : q < suc y = a.0 in
    elim (cases_Bool (is_isolate cs q)) [
      | inl u ↦ (
        λ v. absurd (false≢true (sym v ∙ u)),
        rw u (OpenEmbeddings-around cs y q 0 qs a.1 n.2 n.1 (s ∙ rw u refl) (rw u at h.1)),
      )
      | inr u ↦
          let t : isolate_around cs (suc y) ≡ innermost cs qs = s ∙ rw u refl in
          let x : same_position (isolate_around cs (suc y)) (isolate_around cs q) ≡ true =
          rw (t, n.0) (same_position_refl (innermost cs qs)) in (
            λ v. open_embedding-next cs y k m q (omega arith) (h.0 v)
                (rw (beside-here cs is_embedding_initiator q (suc y) x, beside-here cs is_pdf q (suc y) x) e),
            rw u (OpenEmbeddings-next cs y (suc k) (suc m) qs a.1 n.2 t (omega arith) (rw u at h.1)),
          )
    ]

pub holds-open_embedding : (cs : List Class) (y k q : ℕ) → q < y → IsOpenEmbedding cs y k q →
    lies_in cs (isolate_around cs q) y ≡ true → embedding_holds cs q y ≡ true
unfolding embedding_holds
holds-open_embedding cs y k q l h i = grind (arith, matching_pdf_is, before_match, lt-ltb)

pub holds-not_embedding : (cs : List Class) (y q : ℕ) → is_embedding_initiator (class_at cs q) ≡ false →
    embedding_holds cs q y ≡ false
unfolding embedding_holds
holds-not_embedding cs y q u = rw u refl

pub holds-past_isolate : (cs : List Class) (y q : ℕ) → lies_in cs (isolate_around cs q) y ≡ false →
    embedding_holds cs q y ≡ false
unfolding embedding_holds
holds-past_isolate cs y q u =
    and_right (is_embedding_initiator (class_at cs q)) _
    (and_right (nat_lt q y) _ (and_right (is_before y (matching_pdf cs q)) _ u))

-- a PDF matches the open embedding directly in the same isolate, if no other one is open there
pub holds-closed_embedding : (cs : List Class) (y q : ℕ) → q ≤ y → suc y < length cs →
    IsOfKinds (class_at cs (suc y)) false false false true → isolate_around cs (suc y) ≡ isolate_around cs q →
    IsOpenEmbedding cs y 0 q → embedding_holds cs q (suc y) ≡ false
unfolding embedding_holds
holds-closed_embedding cs y q a b r s h =
    let x : same_position (isolate_around cs (suc y)) (isolate_around cs q) ≡ true =
    rw s (same_position_refl (isolate_around cs q)) in
    let opens : opens_beside cs q (suc y) ≡ false = beside-here cs is_embedding_initiator q (suc y) x ∙
    r.embedding_is in
    let closes : closes_beside cs q (suc y) ≡ true = beside-here cs is_pdf q (suc y) x ∙ r.pdf_is in
    let now = open_closed (opens_beside cs q) (closes_beside cs q) (suc y) 1 q (omega arith) h.still (rw (
      opens,
      closes,
    ) refl) in
    let ended = ap (is_before (suc y)) (matching_pdf_is cs q h.initiates) ∙
    at_match (opens_beside cs q) (closes_beside cs q) (suc y) (length cs) q b now in
    rw (h.initiates, lt-ltb q (suc y) (omega arith), ended) refl
