-- What a PDI or a PDF does to the stack.
use Rattle.std.proofs.Common.{◌≡◌, ℕ, suc, ◌<◌, true, false, List, [], ◌∷◌, ◌++◌, length, arith, refl, ◌∙◌, ◌⊎◌, inl, inr, append-nil}
use Rattle.std.proofs.lemmas.Bool.{cases_Bool, cases_lt}
use Rattle.units.specs.declared.class.Class.{Class}
use Rattle.explicit.specs.OpenInitiators.{is_isolate, after_pdf}
use Rattle.explicit.specs.StatusStacks.{is_taken, entries_of, taken_isolates, overflow_isolates_of, overflow_embeddings_of}
use Rattle.explicit.specs.declared.status.Status.{Status}
use Rattle.explicit.proofs.Holders.Taken.{no_overflow, some_overflow, Adds, adds-taken, adds-isolate, adds-embedding_within, adds-embedding}

-- the stack represents both lists in the same way
pub record IsRepresentedAlike (depth : ℕ) (cs : List Class) (para : ℕ) (xs ys : List ℕ) : Type 0 where
  pub entries : entries_of depth cs para xs ≡ entries_of depth cs para ys
  pub isolates : overflow_isolates_of depth cs para xs ≡ overflow_isolates_of depth cs para ys
  pub embeddings : overflow_embeddings_of depth cs para xs ≡ overflow_embeddings_of depth cs para ys
  pub taken : taken_isolates depth cs para xs ≡ taken_isolates depth cs para ys

pub alike : (depth : ℕ) (cs : List Class) (para : ℕ) (xs : List ℕ) → IsRepresentedAlike depth cs para xs xs
alike depth cs para xs = record { entries = refl; isolates = refl; embeddings = refl; taken = refl }

-- an initiator that adds nothing
alike-from_adds : (depth : ℕ) (cs : List Class) (para q : ℕ) (qs : List ℕ) → Adds depth cs para q qs [] 0 0 0 →
    IsRepresentedAlike depth cs para (q ∷ qs) qs
alike-from_adds depth cs para q qs a = grind (arith, append-nil)

-- within an overflow isolate a PDF changes nothing
pub pdf-ignored : (depth : ℕ) (cs : List Class) (para : ℕ) (qs : List ℕ) → 0 < overflow_isolates_of depth cs para qs →
    IsRepresentedAlike depth cs para qs (after_pdf cs qs)
pdf-ignored depth cs para [] h = absurd (omega arith)
pdf-ignored depth cs para (q ∷ qs) h =
    elim (cases_Bool (is_isolate cs q)) [
      | inl u ↦ rw u (alike depth cs para (q ∷ qs))
      | inr u ↦ elim (cases_Bool (is_taken depth cs para q qs)) [
        | inl t ↦ absurd (let z : overflow_isolates_of depth cs para (q ∷ qs) ≡ 0 =
            (no_overflow depth cs para (q ∷ qs) t).0 in omega arith)
        | inr t ↦ elim (cases_lt 0 (overflow_isolates_of depth cs para qs)) [
          | inl k ↦ rw u (alike-from_adds depth cs para q qs (adds-embedding_within depth cs para q qs t u k))
          | inr k ↦ absurd (let a = adds-embedding depth cs para q qs t u (omega arith) in omega (arith, a.isolates_is))
        ]
      ]
    ]

-- if there are overflow embeddings, a PDF ends the innermost of them
pub record IsOneLess (depth : ℕ) (cs : List Class) (para : ℕ) (xs ys : List ℕ) : Type 0 where
  pub entries : entries_of depth cs para xs ≡ entries_of depth cs para ys
  pub isolates : overflow_isolates_of depth cs para xs ≡ overflow_isolates_of depth cs para ys
  pub embeddings : overflow_embeddings_of depth cs para xs ≡ suc (overflow_embeddings_of depth cs para ys)
  pub taken : taken_isolates depth cs para xs ≡ taken_isolates depth cs para ys

pub pdf-rejected : (depth : ℕ) (cs : List Class) (para : ℕ) (qs : List ℕ) → overflow_isolates_of depth cs para qs ≡ 0 →
    0 < overflow_embeddings_of depth cs para qs → IsOneLess depth cs para qs (after_pdf cs qs)
pdf-rejected depth cs para [] z h = absurd (omega arith)
pdf-rejected depth cs para (q ∷ qs) z h =
    elim (cases_Bool (is_taken depth cs para q qs)) [
      | inl t ↦ absurd (let k : overflow_embeddings_of depth cs para (q ∷ qs) ≡ 0 =
          (no_overflow depth cs para (q ∷ qs) t).1 in omega arith)
      | inr t ↦ elim (cases_Bool (is_isolate cs q)) [
        | inl u ↦ absurd (let a = adds-isolate depth cs para q qs t u in omega (arith, a.isolates_is))
        | inr u ↦ elim (cases_lt 0 (overflow_isolates_of depth cs para qs)) [
          | inl k ↦ absurd (let a = adds-embedding_within depth cs para q qs t u k in omega (arith, a.isolates_is))
          | inr k ↦
              let a = adds-embedding depth cs para q qs t u (omega arith) in
              rw u (record {
                entries = a.entry_is ∙ append-nil (entries_of depth cs para qs);
                isolates = omega (arith, a.isolates_is);
                embeddings = omega (arith, a.embeddings_is);
                taken = omega (arith, a.taken_isolates_is);
              })
        ]
      ]
    ]

-- if all initiators are valid, a PDF ends the innermost one, if that is an embedding
pub record IsOneEntryLess (depth : ℕ) (cs : List Class) (para : ℕ) (xs ys : List ℕ) : Type 0 where
  pub entry : Status
  pub plain : entry.is_isolate ≡ false
  pub entries : entries_of depth cs para xs ≡ entries_of depth cs para ys ++ entry ∷ []
  pub isolates : overflow_isolates_of depth cs para xs ≡ overflow_isolates_of depth cs para ys
  pub embeddings : overflow_embeddings_of depth cs para xs ≡ overflow_embeddings_of depth cs para ys
  pub taken : taken_isolates depth cs para xs ≡ taken_isolates depth cs para ys

-- the last of these entries
abbrev pub ends_in_isolate : List Status → Type 0
ends_in_isolate xs = (front : List Status) × (e : Status) × (xs ≡ front ++ e ∷ []) × (e.is_isolate ≡ true)

after_pdf-isolate : (cs : List Class) (q : ℕ) (qs : List ℕ) → is_isolate cs q ≡ true → q ∷ qs ≡ after_pdf cs (q ∷ qs)
after_pdf-isolate cs q qs u = rw u refl

after_pdf-embedding : (cs : List Class) (q : ℕ) (qs : List ℕ) → is_isolate cs q ≡ false → qs ≡ after_pdf cs (q ∷ qs)
after_pdf-embedding cs q qs u = rw u refl

pub pdf-taken : (depth : ℕ) (cs : List Class) (para : ℕ) (qs : List ℕ) → overflow_isolates_of depth cs para qs ≡ 0 →
    overflow_embeddings_of depth cs para qs ≡ 0 → IsOneEntryLess depth cs para qs (after_pdf cs qs) ⊎
    (IsRepresentedAlike depth cs para qs (after_pdf cs qs) × ((length (entries_of depth cs para qs) ≡ 1) ⊎
    ends_in_isolate (entries_of depth cs para qs)))
pdf-taken depth cs para [] z h = inr (alike depth cs para [], inl refl)
pdf-taken depth cs para (q ∷ qs) z h =
    grind (arith, some_overflow, adds-taken, after_pdf-isolate, alike, after_pdf-embedding)
