-- What a PDI does to the stack.
use Rattle.std.proofs.Common.{◌≡◌, ℕ, suc, ◌<◌, Bool, true, false, ◌||◌, List, [], ◌∷◌, ◌++◌, arith, refl, subst, ◌∙◌, inl, inr, append-nil}
use Rattle.std.specs.List.{list_any}
use Rattle.std.proofs.lemmas.Bool.{cases_Bool, cases_lt, false≢true}
use Rattle.units.specs.declared.class.Class.{Class}
use Rattle.explicit.specs.OpenInitiators.{is_isolate, past_isolate, after_pdi}
use Rattle.explicit.specs.StatusStacks.{is_taken, entries_of, taken_isolates, overflow_isolates_of, overflow_embeddings_of, before_isolate}
use Rattle.explicit.specs.declared.status.Status.{Status}
use Rattle.explicit.proofs.Holders.Taken.{no_overflow, taken-outer, adds-taken, adds-isolate, adds-embedding_within, adds-embedding}

any-snoc : (p : Status → Bool) (xs : List Status) (e : Status) → list_any p (xs ++ e ∷ []) ≡ (list_any p xs || p e)
any-snoc p [] e = elim (cases_Bool (p e)) [ inl u ↦ rw u refl | inr u ↦ rw u refl ]
any-snoc p (x ∷ xs) e = elim (cases_Bool (p x)) [ inl u ↦ rw u refl | inr u ↦ rw u (any-snoc p xs e) ]

pub before-isolate : (xs : List Status) (e : Status) → e.is_isolate ≡ true → before_isolate (xs ++ e ∷ []) ≡ xs
before-isolate [] e u = refl
before-isolate (x ∷ xs) e u = grind (arith, any-snoc, before-isolate xs e u)

pub before-other : (xs : List Status) (e : Status) → e.is_isolate ≡ false →
    before_isolate (xs ++ e ∷ []) ≡ before_isolate xs
before-other [] e u = refl
before-other (x ∷ xs) e u = grind (arith, any-snoc, before-other xs e u)

-- one overflow isolate fewer
pub record IsOverflowLess (depth : ℕ) (cs : List Class) (para : ℕ) (xs ys : List ℕ) : Type 0 where
  pub entries : entries_of depth cs para xs ≡ entries_of depth cs para ys
  pub isolates : overflow_isolates_of depth cs para xs ≡ suc (overflow_isolates_of depth cs para ys)
  pub embeddings : overflow_embeddings_of depth cs para xs ≡ overflow_embeddings_of depth cs para ys
  pub taken : taken_isolates depth cs para xs ≡ taken_isolates depth cs para ys

-- one valid isolate fewer, with no overflow isolate
pub record IsIsolateLess (depth : ℕ) (cs : List Class) (para : ℕ) (xs ys : List ℕ) : Type 0 where
  pub entries : entries_of depth cs para ys ≡ before_isolate (entries_of depth cs para xs)
  pub isolates : overflow_isolates_of depth cs para ys ≡ 0
  pub embeddings : overflow_embeddings_of depth cs para ys ≡ 0
  pub taken : taken_isolates depth cs para xs ≡ suc (taken_isolates depth cs para ys)

past-here : (cs : List Class) (q : ℕ) (qs : List ℕ) → is_isolate cs q ≡ true → qs ≡ past_isolate cs (q ∷ qs)
past-here cs q qs u = rw u refl

past-further : (cs : List Class) (q : ℕ) (qs : List ℕ) → is_isolate cs q ≡ false →
    past_isolate cs qs ≡ past_isolate cs (q ∷ qs)
past-further cs q qs u = rw u refl

past-rejected : (depth : ℕ) (cs : List Class) (para : ℕ) (qs : List ℕ) → list_any (is_isolate cs) qs ≡ true →
    0 < overflow_isolates_of depth cs para qs → IsOverflowLess depth cs para qs (past_isolate cs qs)
past-rejected depth cs para [] v h = absurd (omega arith)
past-rejected depth cs para (q ∷ qs) v h =
    let P : List ℕ → Type 0 = λ ys. IsOverflowLess depth cs para (q ∷ qs) ys in
    elim (cases_Bool (is_taken depth cs para q qs)) [
      | inl t ↦ absurd (let z : overflow_isolates_of depth cs para (q ∷ qs) ≡ 0 =
          (no_overflow depth cs para (q ∷ qs) t).0 in omega arith)
      | inr t ↦ elim (cases_Bool (is_isolate cs q)) [
        | inl u ↦
            let a = adds-isolate depth cs para q qs t u in
            subst P (past-here cs q qs u) (record {
              entries = a.entry_is ∙ append-nil (entries_of depth cs para qs);
              isolates = omega (arith, a.isolates_is);
              embeddings = omega (arith, a.embeddings_is);
              taken = omega (arith, a.taken_isolates_is);
            })
        | inr u ↦ elim (cases_lt 0 (overflow_isolates_of depth cs para qs)) [
          | inl k ↦
              let a = adds-embedding_within depth cs para q qs t u k in
              let ih = past-rejected depth cs para qs (rw u at v) k in
              subst P (past-further cs q qs u) (record {
                entries = a.entry_is ∙ append-nil (entries_of depth cs para qs) ∙ ih.entries;
                isolates = omega (arith, a.isolates_is, ih.isolates);
                embeddings = omega (arith, a.embeddings_is, ih.embeddings);
                taken = omega (arith, a.taken_isolates_is, ih.taken);
              })
          | inr k ↦ absurd (let a = adds-embedding depth cs para q qs t u (omega arith) in omega (arith, a.isolates_is))
        ]
      ]
    ]

past-taken : (depth : ℕ) (cs : List Class) (para : ℕ) (qs : List ℕ) → list_any (is_isolate cs) qs ≡ true →
    overflow_isolates_of depth cs para qs ≡ 0 → IsIsolateLess depth cs para qs (past_isolate cs qs)
past-taken depth cs para [] v h = absurd (false≢true v)
past-taken depth cs para (q ∷ qs) v h =
    grind (
      arith,
      adds-taken,
      no_overflow,
      taken-outer,
      past-here,
      before-isolate,
      past-further,
      before-other,
      adds-isolate,
      adds-embedding_within,
      adds-embedding,
      append-nil,
      past-taken depth cs para qs,
    )

-- if no isolate is open, both counts of isolates are 0
no_isolates : (depth : ℕ) (cs : List Class) (para : ℕ) (qs : List ℕ) → list_any (is_isolate cs) qs ≡ false →
    (overflow_isolates_of depth cs para qs ≡ 0) × (taken_isolates depth cs para qs ≡ 0)
no_isolates depth cs para [] v = (refl, refl)
no_isolates depth cs para (q ∷ qs) v = grind (arith, false≢true, no_isolates depth cs para qs)

pub pdi-rejected : (depth : ℕ) (cs : List Class) (para : ℕ) (qs : List ℕ) → 0 < overflow_isolates_of depth cs para qs →
    IsOverflowLess depth cs para qs (after_pdi cs qs)
pdi-rejected depth cs para qs h =
    elim (cases_Bool (list_any (is_isolate cs) qs)) [
      | inl v ↦ rw v (past-rejected depth cs para qs v h)
      | inr v ↦ absurd (let z = no_isolates depth cs para qs v in omega (arith, z.0))
    ]

pub pdi-taken : (depth : ℕ) (cs : List Class) (para : ℕ) (qs : List ℕ) → overflow_isolates_of depth cs para qs ≡ 0 →
    0 < taken_isolates depth cs para qs → IsIsolateLess depth cs para qs (after_pdi cs qs)
pdi-taken depth cs para qs z h =
    elim (cases_Bool (list_any (is_isolate cs) qs)) [
      | inl v ↦ rw v (past-taken depth cs para qs v z)
      | inr v ↦ absurd (let k = no_isolates depth cs para qs v in omega (arith, k.1))
    ]

pub pdi-none : (depth : ℕ) (cs : List Class) (para : ℕ) (qs : List ℕ) → overflow_isolates_of depth cs para qs ≡ 0 →
    taken_isolates depth cs para qs ≡ 0 → after_pdi cs qs ≡ qs
pdi-none depth cs para qs z h =
    elim (cases_Bool (list_any (is_isolate cs) qs)) [
      | inl v ↦ absurd (let k = past-taken depth cs para qs v z in omega (arith, k.taken))
      | inr v ↦ rw v refl
    ]
