-- How the stack represents the open initiators, step by step.
use Rattle.std.proofs.lemmas.Bool.Decides.{nat_tests}
use Rattle.std.proofs.lemmas.Grind.{common_steps}
use Rattle.std.proofs.Common.{◌≡◌, ℕ, ◌-◌, ◌<◌, ◌≤◌, ◌^◌, Bool, true, false, ◌&&◌, List, [], ◌∷◌, ◌++◌, length, get_or, take, arith, refl, sym, ap, ◌∙◌, cond, ◌⊎◌, length-append}
use Rattle.std.proofs.Math.Seq.{get_or-append_seam, take-append_seam}
use Rattle.std.proofs.lemmas.Bool.{false≢true, ne_eqb, and_left, and_right, le-leb, lt-leb}
use Rattle.std.specs.Prelude.{nat_le, ◌==◌, Option, Some, unwrap_or}
use Rattle.units.specs.Explicit.{wants_odd, next_odd, next_even, override_of}
use Rattle.units.specs.Classes.{class_at, is_isolate_initiator, is_removed, is_separator}
use Rattle.units.specs.declared.class.Class.{Class}
use Rattle.explicit.specs.OpenInitiators.{after_pdi, after_pdf, past_isolate}
use Rattle.explicit.specs.StackChanges.{Closes}
use Rattle.explicit.specs.StatusStacks.{state_within, is_taken, entry_of, entry_at, entries_of, overflow_isolates_of, overflow_embeddings_of, before_isolate, Represents, IsReachedStack, leveled_in}
use Rattle.explicit.specs.declared.status.Status.{Status}
use Rattle.explicit.specs.declared.status.StatusStack.{StatusStack}
use Rattle.explicit.proofs.Holders.Taken.{level-bound, entries-few, last_entry, overflow_isolates_of-few, overflow_embeddings_of-few, taken_isolates-few, taken_is, state-taken, asked, no_overflow, some_overflow}
use Rattle.explicit.proofs.Holders.Closing.{IsRepresentedAlike, pdf-ignored, pdf-rejected, pdf-taken}
use Rattle.explicit.proofs.Holders.ClosingIsolate.{pdi-rejected, pdi-taken, pdi-none}

represents-alike : (depth : ℕ) (cs : List Class) (para : ℕ) (xs ys : List ℕ) (n : StatusStack) →
    IsRepresentedAlike depth cs para xs ys → Represents depth cs para xs n → Represents depth cs para ys n
represents-alike depth cs para xs ys n a r = grind arith

pub pdf-within_overflow : (depth : ℕ) (cs : List Class) (para : ℕ) (qs : List ℕ) (n : StatusStack) →
    Represents depth cs para qs n → 0 < n.overflow_isolates → Represents depth cs para (after_pdf cs qs) n
pdf-within_overflow depth cs para qs n r h =
    represents-alike depth cs para qs (after_pdf cs qs) n (pdf-ignored depth cs para qs (omega (
      arith,
      r.overflow_isolates,
    ))) r

pub pdf-overflow : (depth : ℕ) (cs : List Class) (para : ℕ) (qs : List ℕ) (n : StatusStack) →
    Represents depth cs para qs n → n.overflow_isolates ≤ 0 → 0 < n.overflow_embeddings →
    Represents depth cs para (after_pdf cs qs) (record {
      entries = n.entries;
      overflow_isolates = n.overflow_isolates;
      overflow_embeddings = n.overflow_embeddings - 1;
      valid_isolates = n.valid_isolates;
    })
pdf-overflow depth cs para qs n r z h = grind (arith, pdf-rejected)

last-of : (xs : List Status) (e d : Status) → get_or (xs ++ e ∷ []) (length (xs ++ e ∷ []) - 1) d ≡ e
last-of xs e d = grind (arith, nat_tests, common_steps, length-append, get_or-append_seam)

front-of : (xs : List Status) (e : Status) → take (length (xs ++ e ∷ []) - 1) (xs ++ e ∷ []) ≡ xs
front-of xs e = grind (arith, nat_tests, common_steps, length-append, take-append_seam)

-- the last of these entries, or d if there is none
abbrev pub last_of : List Status → Status → Status
last_of xs d = get_or xs (length xs - 1) d

pub entries-some : (depth : ℕ) (cs : List Class) (para : ℕ) (qs : List ℕ) → 0 < length (entries_of depth cs para qs)
entries-some depth cs para qs =
    let l = last_entry depth cs para qs in
    rw (l.2, length-append l.0 (entry_of (state_within depth cs para qs) l.1 ∷ [])) (omega arith)

-- nothing to pop
pub pdf-retained : (depth : ℕ) (cs : List Class) (para : ℕ) (qs : List ℕ) (n : StatusStack) →
    Represents depth cs para qs n → n.overflow_isolates ≤ 0 → n.overflow_embeddings ≤ 0 → (length n.entries.items < 2) ⊎
    ((d : Status) × ((last_of n.entries.items d).is_isolate ≡ true)) → Represents depth cs para (after_pdf cs qs) n
pdf-retained depth cs para qs n r z h k =
    grind (arith, pdf-taken, represents-alike, length-append, entries-some, false≢true, last-of)

pub pdf-popped : (depth : ℕ) (cs : List Class) (para : ℕ) (qs : List ℕ) (n m : StatusStack) (d : Status) →
    Represents depth cs para qs n → n.overflow_isolates ≤ 0 → n.overflow_embeddings ≤ 0 → 2 ≤ length n.entries.items →
    (last_of n.entries.items d).is_isolate ≡ false →
    m.entries.items ≡ take (length n.entries.items - 1) n.entries.items → m.overflow_isolates ≡ n.overflow_isolates →
    m.overflow_embeddings ≡ n.overflow_embeddings → m.valid_isolates ≡ n.valid_isolates →
    Represents depth cs para (after_pdf cs qs) m
pdf-popped depth cs para qs n m d r z h two l p i e v = grind (arith, pdf-taken, front-of, false≢true, last-of)

pub pdi-overflow : (depth : ℕ) (cs : List Class) (para : ℕ) (qs : List ℕ) (n : StatusStack) →
    Represents depth cs para qs n → 0 < n.overflow_isolates →
    Represents depth cs para (after_pdi cs qs) (record {
      entries = n.entries;
      overflow_isolates =
          n.overflow_isolates - 1;
      overflow_embeddings = n.overflow_embeddings;
      valid_isolates = n.valid_isolates;
    })
pdi-overflow depth cs para qs n r h = grind (arith, pdi-rejected)

pub pdi-ended : (depth : ℕ) (cs : List Class) (para : ℕ) (qs : List ℕ) (n m : StatusStack) →
    Represents depth cs para qs n → n.overflow_isolates ≤ 0 → 0 < n.valid_isolates →
    m.entries.items ≡ before_isolate n.entries.items → m.overflow_isolates ≡ n.overflow_isolates →
    m.overflow_embeddings ≡ 0 → m.valid_isolates ≡ n.valid_isolates - 1 → Represents depth cs para (after_pdi cs qs) m
pdi-ended depth cs para qs n m r z h p i e v =
    let d = pdi-taken depth cs para qs (omega (arith, r.overflow_isolates)) (omega (arith, r.valid_isolates)) in
    record {
      entries = p ∙ ap before_isolate r.entries ∙ sym d.entries;
      overflow_isolates = omega (arith, i, r.overflow_isolates, d.isolates);
      overflow_embeddings = omega (arith, e, d.embeddings);
      valid_isolates = omega (arith, v, r.valid_isolates, d.taken);
    }

pub pdi-unmatched : (depth : ℕ) (cs : List Class) (para : ℕ) (qs : List ℕ) (n : StatusStack) →
    Represents depth cs para qs n → n.overflow_isolates ≤ 0 → n.valid_isolates ≤ 0 →
    Represents depth cs para (after_pdi cs qs) n
pdi-unmatched depth cs para qs n r z h = grind (arith, pdi-none)

sound_is : (depth : ℕ) (cs : List Class) (para : ℕ) (qs : List ℕ) →
    (state_within depth cs para qs).sound ≡ (overflow_isolates_of depth cs para qs == 0 &&
    overflow_embeddings_of depth cs para qs == 0)
sound_is depth cs para qs = grind (arith, no_overflow, some_overflow, and_right, ne_eqb, and_left)

takes-is_taken : (depth : ℕ) (cs : List Class) (para : ℕ) (qs : List ℕ) (p : ℕ) (n : StatusStack) →
    Represents depth cs para qs n →
    is_taken depth cs para p qs ≡ ((n.overflow_isolates == 0 && n.overflow_embeddings == 0) &&
    nat_le (asked depth cs para p qs) depth)
takes-is_taken depth cs para qs p n r = taken_is depth cs para p qs ∙
    ap (λ b. b && nat_le (asked depth cs para p qs) depth) (sound_is depth cs para qs ∙
    rw (r.overflow_isolates, r.overflow_embeddings) refl)

-- bounds of the stack's counts
pub record IsBounded (n : StatusStack) : Type 0 where
  pub some : 0 < length n.entries.items
  pub room : length n.entries.items < 127
  pub level : (d : Status) → (last_of n.entries.items d).level ≤ 125
  pub overflow_isolates : n.overflow_isolates < 2 ^ 63
  pub overflow_embeddings : n.overflow_embeddings < 2 ^ 63
  pub valid_isolates : n.valid_isolates < 2 ^ 63

pub last-is : (depth : ℕ) (cs : List Class) (para : ℕ) (qs : List ℕ) (n : StatusStack) (d : Status) →
    Represents depth cs para qs n →
    (isolate : Bool) × (last_of n.entries.items d ≡ entry_of (state_within depth cs para qs) isolate)
last-is depth cs para qs n d r =
    let l = last_entry depth cs para qs in
    (l.1, ap (λ xs. last_of xs d) (r.entries ∙ l.2) ∙ last-of l.0 (entry_of (state_within depth cs para qs) l.1) d)

pub retained-bounded : (n : StatusStack) → IsReachedStack n → IsBounded n
retained-bounded n k =
    let r = k.represents in
    let short : length n.entries.items ≡ length (entries_of k.depth k.classes k.para_level k.initiators) =
    ap length r.entries in
    let few = entries-few k.depth k.classes k.para_level k.initiators in
    let deep = level-bound k.depth k.classes k.para_level k.initiators 125 k.within (let b : k.para_level ≤ 1 =
    k.base in omega arith) in
    record {
      some = rw short (entries-some k.depth k.classes k.para_level k.initiators);
      room = omega (arith, short, few, deep);
      level = λ d. let l = last-is k.depth k.classes k.para_level k.initiators n d r in rw l.1 deep;
      overflow_isolates = omega (
        arith,
        r.overflow_isolates,
        overflow_isolates_of-few k.depth k.classes k.para_level k.initiators,
        k.few,
      );
      overflow_embeddings =
          omega (
            arith,
            r.overflow_embeddings,
            overflow_embeddings_of-few k.depth k.classes k.para_level k.initiators,
            k.few,
          );
      valid_isolates = omega (
        arith,
        r.valid_isolates,
        taken_isolates-few k.depth k.classes k.para_level k.initiators,
        k.few,
      );
    }

-- after a PDI no more initiators are open than before it
past_isolate-short : (cs : List Class) (qs : List ℕ) → length (past_isolate cs qs) ≤ length qs
past_isolate-short cs [] = omega arith
past_isolate-short cs (q ∷ qs) = grind (arith, past_isolate-short cs qs)

after_pdi-short : (cs : List Class) (qs : List ℕ) → length (after_pdi cs qs) ≤ length qs
after_pdi-short cs qs = grind (arith, past_isolate-short cs qs)

pub pdi-leaves_reached : (n m : StatusStack) → IsReachedStack n → Closes after_pdi n m → IsReachedStack m
pdi-leaves_reached n m k closes = record {
  depth = k.depth;
  classes = k.classes;
  para_level = k.para_level;
  initiators =
      after_pdi k.classes k.initiators;
  represents = closes k.depth k.classes k.para_level k.initiators k.represents;
  base = k.base;
  within = k.within;
  few = omega (arith, after_pdi-short k.classes k.initiators, k.few);
}

-- the level that is asked for is the one above the last entry's level
pub asked-is : (depth : ℕ) (cs : List Class) (para : ℕ) (qs : List ℕ) (p : ℕ) (n : StatusStack) (class : Class)
    (odd : Bool) (entry : Status) (level : ℕ) → Represents depth cs para qs n → class ≡ class_at cs p →
    odd ≡ wants_odd cs p class → entry ≡ last_of n.entries.items entry →
    level ≡ cond odd (next_odd entry.level) (next_even entry.level) → level ≡ asked depth cs para p qs
asked-is depth cs para qs p n class odd entry level r k o e l =
    let s = last-is depth cs para qs n entry r in
    let d : entry.level ≡ (state_within depth cs para qs).level = ap (λ x. x.level) (e ∙ s.1) in
    l ∙ rw (d, o, k) refl

pub entry-is : (depth : ℕ) (cs : List Class) (para : ℕ) (qs : List ℕ) (p : ℕ) (class : Class) (level : ℕ)
    (override_class : Option Class) (isolate : Bool) → is_taken depth cs para p qs ≡ true → class ≡ class_at cs p →
    level ≡ asked depth cs para p qs → override_class ≡ override_of class → isolate ≡ is_isolate_initiator class →
    record { level = level; override_class = override_class; is_isolate = isolate } ≡ entry_at depth cs para p qs
entry-is depth cs para qs p class level override_class isolate t k l f i = grind (arith, state-taken)

-- an initiator inside no overflow initiator is valid exactly if its level is not above the depth
module _ (depth : ℕ) (cs : List Class) (para : ℕ) (qs : List ℕ) (p : ℕ) (n : StatusStack)
    (represents : Represents depth cs para qs n) where
  module _ (level : ℕ) (is : level ≡ asked depth cs para p qs)
      (sound : (n.overflow_isolates == 0 && n.overflow_embeddings == 0) ≡ true) where
    sound-by : is_taken depth cs para p qs ≡ nat_le level depth
    sound-by = takes-is_taken depth cs para qs p n represents ∙
        ap (λ b. b && nat_le (asked depth cs para p qs) depth) sound ∙ ap (λ x. nat_le x depth) (sym is)

    pub sound-taken : level ≤ depth → is_taken depth cs para p qs ≡ true
    sound-taken h = sound-by ∙ le-leb level depth h

    pub sound-rejected : depth < level → is_taken depth cs para p qs ≡ false
    sound-rejected h = sound-by ∙ lt-leb level depth h

  -- an initiator inside an overflow initiator is an overflow initiator
  pub within-rejected : (n.overflow_isolates == 0 && n.overflow_embeddings == 0) ≡ false →
      is_taken depth cs para p qs ≡ false
  within-rejected rejected = takes-is_taken depth cs para qs p n represents ∙
      ap (λ b. b && nat_le (asked depth cs para p qs) depth) rejected

pub leveled_in-by : (depth : ℕ) (cs : List Class) (para : ℕ) (qs : List ℕ) (n : StatusStack) (class : Class)
    (entry : Status) → Represents depth cs para qs n → is_removed class ≡ false → is_separator class ≡ false →
    entry ≡ last_of n.entries.items entry →
    Some (entry.level, unwrap_or entry.override_class class) ≡ leveled_in (state_within depth cs para qs) para class
leveled_in-by depth cs para qs n class entry r u v e =
    let s = last-is depth cs para qs n entry r in
    rw (u, v) (ap (λ x. Some (x.level, unwrap_or x.override_class class)) (e ∙ s.1))
