-- Valid initiators and overflow initiators, and their counts.
use Rattle.std.proofs.Common.{◌≡◌, ℕ, ◌+◌, ◌<◌, ◌≤◌, Bool, true, false, ◌&&◌, List, [], ◌∷◌, ◌++◌, length, arith, refl, sym, ◌∙◌, cond, inl, inr, length-append, append-nil}
use Rattle.std.specs.Prelude.{nat_le}
use Rattle.std.proofs.lemmas.Bool.{cases_Bool, cond-true, cond-false, false≢true, and_parts, leb-true, lt-ltb}
use Rattle.units.specs.Classes.{class_at}
use Rattle.units.specs.Explicit.{State, entered, wanted_level, wants_odd, override_of}
use Rattle.units.specs.declared.class.Class.{Class}
use Rattle.explicit.specs.OpenInitiators.{is_isolate}
use Rattle.explicit.specs.StatusStacks.{state_within, is_taken, entry_of, entry_at, entries_of, taken_isolates, overflow_isolates_of, overflow_embeddings_of}
use Rattle.explicit.specs.declared.status.Status.{Status}

-- the level that the initiator at q asks for within these
abbrev pub asked : ℕ → List Class → ℕ → ℕ → List ℕ → ℕ
asked depth cs para q qs = wanted_level cs (state_within depth cs para qs).level q

pick-sound : (b : Bool) (x y : State) → x.sound ≡ true → y.sound ≡ false → (cond b x y).sound ≡ b
pick-sound true x y h k = h
pick-sound false x y h k = k

pub taken_is : (depth : ℕ) (cs : List Class) (para q : ℕ) (qs : List ℕ) →
    is_taken depth cs para q qs ≡ ((state_within depth cs para qs).sound && nat_le (asked depth cs para q qs) depth)
unfolding entered
taken_is depth cs para q qs =
    pick-sound ((state_within depth cs para qs).sound && nat_le (asked depth cs para q qs) depth) (record {
      level =
          asked depth cs para q qs;
      override = override_of (class_at cs q);
      sound = true;
    }) (record {
      level =
          (state_within depth cs para qs).level;
      override = (state_within depth cs para qs).override;
      sound =
          false;
    }) refl refl

pub state-taken : (depth : ℕ) (cs : List Class) (para q : ℕ) (qs : List ℕ) → is_taken depth cs para q qs ≡ true →
    state_within depth cs para (q ∷ qs) ≡ record {
      level = asked depth cs para q qs;
      override =
          override_of (class_at cs q);
      sound = true;
    }
unfolding entered
state-taken depth cs para q qs h = cond-true _ _ _ (sym (taken_is depth cs para q qs) ∙ h)

pub state-rejected : (depth : ℕ) (cs : List Class) (para q : ℕ) (qs : List ℕ) → is_taken depth cs para q qs ≡ false →
    state_within depth cs para (q ∷ qs) ≡ record {
      level = (state_within depth cs para qs).level;
      override =
          (state_within depth cs para qs).override;
      sound = false;
    }
unfolding entered
state-rejected depth cs para q qs h = cond-false _ _ _ (sym (taken_is depth cs para q qs) ∙ h)

-- a valid initiator is only inside valid ones
pub taken-outer : (depth : ℕ) (cs : List Class) (para q : ℕ) (qs : List ℕ) → is_taken depth cs para q qs ≡ true →
    (state_within depth cs para qs).sound ≡ true
taken-outer depth cs para q qs h =
    (and_parts (state_within depth cs para qs).sound (nat_le (asked depth cs para q qs) depth)
    (sym (taken_is depth cs para q qs) ∙ h)).0

pub no_overflow : (depth : ℕ) (cs : List Class) (para : ℕ) (qs : List ℕ) →
    (state_within depth cs para qs).sound ≡ true → (overflow_isolates_of depth cs para qs ≡ 0) ×
    (overflow_embeddings_of depth cs para qs ≡ 0)
no_overflow depth cs para [] h = (refl, refl)
no_overflow depth cs para (q ∷ qs) h =
    grind (arith, taken-outer, no_overflow depth cs para qs (taken-outer depth cs para q qs h))

pub some_overflow : (depth : ℕ) (cs : List Class) (para : ℕ) (qs : List ℕ) →
    (state_within depth cs para qs).sound ≡ false →
    0 < overflow_isolates_of depth cs para qs + overflow_embeddings_of depth cs para qs
some_overflow depth cs para [] h = absurd (false≢true (sym h))
some_overflow depth cs para (q ∷ qs) h = grind (arith, leb-true)

pub next-above : (cs : List Class) (level q : ℕ) → level < wanted_level cs level q
next-above cs level q = elim (cases_Bool (wants_odd cs q (class_at cs q))) [
  | inl u ↦ rw u (omega arith)
  | inr u ↦
      rw u (omega arith)
]

pub level-bound : (depth : ℕ) (cs : List Class) (para : ℕ) (qs : List ℕ) (most : ℕ) → depth ≤ most → para ≤ most →
    (state_within depth cs para qs).level ≤ most
level-bound depth cs para [] most d h = h
level-bound depth cs para (q ∷ qs) most d h =
    grind (arith, state-taken, leb-true, and_parts, taken_is, state-rejected, level-bound depth cs para qs most d h)

-- the levels rise with each entry, so there are few entries
pub entries-few : (depth : ℕ) (cs : List Class) (para : ℕ) (qs : List ℕ) →
    length (entries_of depth cs para qs) ≤ (state_within depth cs para qs).level + 1
entries-few depth cs para [] = omega arith
entries-few depth cs para (q ∷ qs) =
    grind (arith, length-append, next-above, state-taken, state-rejected, entries-few depth cs para qs)

-- what one more initiator adds
pub record Adds (depth : ℕ) (cs : List Class) (para q : ℕ) (qs : List ℕ) (entry : List Status)
    (isolates embeddings taken : ℕ) : Type 0 where
  pub entry_is : entries_of depth cs para (q ∷ qs) ≡ entries_of depth cs para qs ++ entry
  pub isolates_is : overflow_isolates_of depth cs para (q ∷ qs) ≡ isolates + overflow_isolates_of depth cs para qs
  pub embeddings_is : overflow_embeddings_of depth cs para (q ∷ qs) ≡
      embeddings + overflow_embeddings_of depth cs para qs
  pub taken_isolates_is : taken_isolates depth cs para (q ∷ qs) ≡ taken + taken_isolates depth cs para qs

pub adds-taken : (depth : ℕ) (cs : List Class) (para q : ℕ) (qs : List ℕ) → is_taken depth cs para q qs ≡ true →
    Adds depth cs para q qs (entry_at depth cs para q qs ∷ []) 0 0 (cond (is_isolate cs q) 1 0)
adds-taken depth cs para q qs t = record {
  entry_is = rw t refl;
  isolates_is = rw t refl;
  embeddings_is = rw t refl;
  taken_isolates_is = rw t refl;
}

pub adds-isolate : (depth : ℕ) (cs : List Class) (para q : ℕ) (qs : List ℕ) → is_taken depth cs para q qs ≡ false →
    is_isolate cs q ≡ true → Adds depth cs para q qs [] 1 0 0
adds-isolate depth cs para q qs t u = record {
  entry_is = rw t (sym (append-nil (entries_of depth cs para qs)));
  isolates_is = rw (t, u) refl;
  embeddings_is = rw (t, u) refl;
  taken_isolates_is = rw t refl;
}

pub adds-embedding_within : (depth : ℕ) (cs : List Class) (para q : ℕ) (qs : List ℕ) →
    is_taken depth cs para q qs ≡ false → is_isolate cs q ≡ false → 0 < overflow_isolates_of depth cs para qs →
    Adds depth cs para q qs [] 0 0 0
adds-embedding_within depth cs para q qs t u h =
    record {
      entry_is = rw t (sym (append-nil (entries_of depth cs para qs)));
      isolates_is = rw (t, u) refl;
      embeddings_is = rw (t, u, lt-ltb 0 (overflow_isolates_of depth cs para qs) h) refl;
      taken_isolates_is = rw t refl;
    }

pub adds-embedding : (depth : ℕ) (cs : List Class) (para q : ℕ) (qs : List ℕ) → is_taken depth cs para q qs ≡ false →
    is_isolate cs q ≡ false → overflow_isolates_of depth cs para qs ≡ 0 → Adds depth cs para q qs [] 0 1 0
adds-embedding depth cs para q qs t u h = record {
  entry_is = rw t (sym (append-nil (entries_of depth cs para qs)));
  isolates_is = rw (t, u) refl;
  embeddings_is = rw (t, u, h) refl;
  taken_isolates_is = rw t refl;
}

-- at most the number of initiators
pub overflow_isolates_of-few : (depth : ℕ) (cs : List Class) (para : ℕ) (qs : List ℕ) →
    overflow_isolates_of depth cs para qs ≤ length qs
overflow_isolates_of-few depth cs para [] = omega arith
overflow_isolates_of-few depth cs para (q ∷ qs) = grind (arith, overflow_isolates_of-few depth cs para qs)

pub overflow_embeddings_of-few : (depth : ℕ) (cs : List Class) (para : ℕ) (qs : List ℕ) →
    overflow_embeddings_of depth cs para qs ≤ length qs
overflow_embeddings_of-few depth cs para [] = omega arith
overflow_embeddings_of-few depth cs para (q ∷ qs) = grind (arith, overflow_embeddings_of-few depth cs para qs)

pub taken_isolates-few : (depth : ℕ) (cs : List Class) (para : ℕ) (qs : List ℕ) →
    taken_isolates depth cs para qs ≤ length qs
taken_isolates-few depth cs para [] = omega arith
taken_isolates-few depth cs para (q ∷ qs) = grind (arith, taken_isolates-few depth cs para qs)

-- the last entry is that of the state inside these initiators
pub last_entry : (depth : ℕ) (cs : List Class) (para : ℕ) (qs : List ℕ) → (front : List Status) × (isolate : Bool) ×
    (entries_of depth cs para qs ≡ front ++ entry_of (state_within depth cs para qs) isolate ∷ [])
last_entry depth cs para [] = ([], false, refl)
last_entry depth cs para (q ∷ qs) =
    elim (cases_Bool (is_taken depth cs para q qs)) [
      | inl t ↦ (entries_of depth cs para qs, is_isolate cs q, rw t refl)
      | inr t ↦ let ih = last_entry depth cs para qs in (ih.0, ih.1, rw (t, state-rejected depth cs para q qs t) ih.2)
    ]
