-- From the initiators around a position to those around the next.
use Rattle.std.proofs.Common.{◌≡◌, ℕ, zero, suc, ◌<◌, false, List, [], length, arith, refl, sym, ◌∙◌}
use Rattle.std.specs.Prelude.{None}
use Rattle.std.proofs.lemmas.Bool.{false≢true}
use Rattle.units.specs.Classes.{class_at, is_embedding_initiator}
use Rattle.units.specs.Isolates.{isolate_around}
use Rattle.units.specs.declared.class.Class.{Class}
use Rattle.explicit.proofs.Matched.StillOpen.{bit}
use Rattle.explicit.proofs.Holders.Roles.{Role, role, opens_isolate, opens_embedding, closes_isolate, closes_embedding, plain}
use Rattle.explicit.specs.OpenInitiators.{is_isolate, opened, still_open}
use Rattle.explicit.proofs.Holders.Open.{holders, holders-next, isolate_around-next, innermost}
use Rattle.explicit.proofs.Holders.OpenIsolates.{AllBelow, AllBelow-weaker, OpenIsolates, open_isolate-first}
use Rattle.explicit.proofs.Holders.IsolatesAfter.{RemainOpen, still_open-keeps, isolates-remaining, find-remaining}
use Rattle.explicit.proofs.Holders.OpenEmbeddings.{OpenEmbeddings, Nested, open_embedding-first}
use Rattle.explicit.proofs.Holders.EmbeddingsAfter.{IsOpen, embeddings-remaining, filter-remaining, filter-open}

-- the initiators that are still open at y, with the class at y counted
record IsStillOpen (cs : List Class) (y : ℕ) (qs : List ℕ) : Type 0 where
  bound : AllBelow y qs
  isolates : OpenIsolates cs y (bit (is_isolate cs y)) qs
  embeddings : OpenEmbeddings cs y (bit (is_embedding_initiator (class_at cs y))) qs
  nested : Nested cs qs
  around : isolate_around cs y ≡ innermost cs qs

same : (cs : List Class) (y : ℕ) (qs : List ℕ) → is_isolate cs y ≡ false →
    is_embedding_initiator (class_at cs y) ≡ false → IsStillOpen cs y qs → IsOpen cs y qs
same cs y qs i e h = record {
  bound = AllBelow-weaker y (suc y) qs (omega arith) h.bound;
  isolates = rw i at h.isolates;
  embeddings = rw e at h.embeddings;
  nested = h.nested;
}

opened-is_open : (cs : List Class) (y : ℕ) (qs : List ℕ) → Role (class_at cs y) → y < length cs → IsStillOpen cs y qs →
    IsOpen cs y (opened cs y qs)
opened-is_open cs y qs (opens_isolate r) l h = rw r.isolate_is (record {
  bound = (omega arith, AllBelow-weaker y (suc y) qs (omega arith) h.bound);
  isolates = ((λ u. open_isolate-first cs y r), rw r.isolate_is (rw r.isolate_is at h.isolates));
  embeddings = ((λ u. absurd (false≢true (sym u ∙ r.isolate_is))), rw r.isolate_is (rw r.embedding_is at h.embeddings));
  nested = (h.around, h.bound, h.nested);
})
opened-is_open cs y qs (opens_embedding r) l h = rw (r.isolate_is, r.embedding_is) (record {
  bound = (omega arith, AllBelow-weaker y (suc y) qs (omega arith) h.bound);
  isolates = ((λ u. absurd (false≢true (sym r.isolate_is ∙ u))), rw r.isolate_is (rw r.isolate_is at h.isolates));
  embeddings = ((λ u. open_embedding-first cs y r), rw r.isolate_is (rw r.embedding_is at h.embeddings));
  nested = (h.around, h.bound, h.nested);
})
opened-is_open cs y qs (closes_isolate r) l h =
    rw (r.isolate_is, r.embedding_is) (same cs y qs r.isolate_is r.embedding_is h)
opened-is_open cs y qs (closes_embedding r) l h =
    rw (r.isolate_is, r.embedding_is) (same cs y qs r.isolate_is r.embedding_is h)
opened-is_open cs y qs (plain r) l h = rw (r.isolate_is, r.embedding_is) (same cs y qs r.isolate_is r.embedding_is h)

remaining-next : (cs : List Class) (y : ℕ) → suc y < length cs → IsOpen cs y (opened cs y (holders cs y)) →
    IsStillOpen cs (suc y) (RemainOpen cs y (opened cs y (holders cs y)))
remaining-next cs y l h =
    let qs : List ℕ = opened cs y (holders cs y) in
    let ro = role (class_at cs (suc y)) in
    let s : isolate_around cs (suc y) ≡ innermost cs (RemainOpen cs y qs) = isolate_around-next cs y ∙
    find-remaining cs y qs ro h.bound l h.isolates in
    let retained = still_open-keeps cs (λ xs. AllBelow (suc y) xs × Nested cs xs) (λ q xs h.
    (h.0.1, h.1.2)) (class_at cs (suc y)) qs (h.bound, h.nested) in
    record {
      bound = retained.0;
      isolates = isolates-remaining cs y qs ro h.bound h.isolates;
      embeddings = embeddings-remaining cs y qs ro h.bound h.nested s h.embeddings;
      nested = retained.1;
      around = s;
    }

holders-remaining : (cs : List Class) (y : ℕ) → suc y < length cs → IsOpen cs y (opened cs y (holders cs y)) →
    holders cs (suc y) ≡ RemainOpen cs y (opened cs y (holders cs y))
holders-remaining cs y l h = grind (arith, remaining-next, holders-next, filter-remaining, role, filter-open)

around-first : (cs : List Class) → isolate_around cs 0 ≡ None
unfolding isolate_around
around-first cs = refl

pub holders-are_open : (cs : List Class) (y : ℕ) → y < length cs → IsOpen cs y (opened cs y (holders cs y))
holders-are_open cs zero l = opened-is_open cs 0 [] (role (class_at cs 0)) l (record {
  bound = tt;
  isolates = tt;
  embeddings = tt;
  nested = tt;
  around = around-first cs;
})
holders-are_open cs (suc y) l = grind (
  arith,
  holders-remaining,
  opened-is_open,
  role,
  remaining-next,
  holders-are_open cs y,
)

-- the initiators around the next position are those that its class leaves open, among those around this position and
-- the one at it
pub holders-step : (cs : List Class) (y : ℕ) → suc y < length cs →
    holders cs (suc y) ≡ still_open cs (class_at cs (suc y)) (opened cs y (holders cs y))
holders-step cs y l = holders-remaining cs y l (holders-are_open cs y (omega arith))
