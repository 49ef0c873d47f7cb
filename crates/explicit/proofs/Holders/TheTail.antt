-- The overflow initiators are a tail of the chain.
use Rattle.std.proofs.lemmas.Bool.Decides.{nat_tests}
use Rattle.std.proofs.lemmas.Grind.{common_steps}
use Rattle.std.proofs.Common.{◌≡◌, ℕ, ◌+◌, ◌<◌, Bool, true, false, not, ◌||◌, List, [], ◌∷◌, ◌++◌, length, arith, refl, sym, ap, ◌∙◌, cond, inl, inr, length-append, reverse}
use Rattle.std.specs.Prelude.{count_by, nat_lt, ◌==◌}
use Rattle.std.specs.List.{suffix_len, prefix_len}
use Rattle.std.proofs.lemmas.Bool.{cases_Bool, cases_lt, lt-ltb, le-ltb, eq-eqb, ne_eqb, or_right}
use Rattle.std.proofs.lemmas.List.{reverse-append, length-reverse}
use Rattle.std.proofs.lemmas.List.Sums.{sum_by-append}
use Rattle.std.proofs.lemmas.List.Folds.{prefix_len-append}
use Rattle.units.specs.declared.class.Class.{Class}
use Rattle.explicit.specs.OpenInitiators.{is_isolate}
use Rattle.explicit.specs.StatusStacks.{state_within, is_taken, entries_of, taken_isolates, overflow_isolates_of, IsOverflowTail}
use Rattle.explicit.proofs.Matched.StillOpen.{bit}
use Rattle.explicit.proofs.Holders.Taken.{taken-outer, no_overflow, adds-taken}

count-cons : (t : ℕ → Bool) (q : ℕ) (qs : List ℕ) → count_by t (q ∷ qs) ≡ bit (t q) + count_by t qs
count-cons t q qs = sum_by-append (λ x. cond (t x) 1 0) (q ∷ []) qs ∙ ap (λ k. k + count_by t qs) (omega arith)

suffix-cons : (t : ℕ → Bool) (q : ℕ) (qs : List ℕ) →
    suffix_len t (q ∷ qs) ≡ cond (suffix_len t qs == length qs) (length qs + bit (t q)) (suffix_len t qs)
suffix-cons t q qs = ap (prefix_len t) (reverse-append (q ∷ []) qs) ∙ prefix_len-append t (reverse qs) (q ∷ []) ∙
    ap (λ n. cond (suffix_len t qs == n) (n + bit (t q)) (suffix_len t qs)) (length-reverse qs)

-- if no element passes, all fail from the end back, and not all if one passes
suffix-all : (t : ℕ → Bool) (qs : List ℕ) → count_by t qs ≡ 0 → suffix_len (λ q. not (t q)) qs ≡ length qs
suffix-all t [] h = refl
suffix-all t (q ∷ qs) h = grind (arith, count-cons, suffix-cons, eq-eqb, suffix-all t qs)

suffix-some : (t : ℕ → Bool) (qs : List ℕ) → 0 < count_by t qs → suffix_len (λ q. not (t q)) qs < length qs
suffix-some t [] h = absurd (omega arith)
suffix-some t (q ∷ qs) h = grind (arith, count-cons, suffix-cons, ne_eqb, suffix-all, eq-eqb, suffix-some t qs)

all_taken : (depth : ℕ) (cs : List Class) (para : ℕ) (qs : List ℕ) → (state_within depth cs para qs).sound ≡ true →
    (length (entries_of depth cs para qs) ≡ length qs + 1) ×
    (taken_isolates depth cs para qs ≡ count_by (is_isolate cs) qs)
all_taken depth cs para [] s = (refl, refl)
all_taken depth cs para (q ∷ qs) s =
    grind (
      arith,
      nat_tests,
      common_steps,
      taken-outer,
      adds-taken,
      length-append,
      count-cons,
      all_taken depth cs para qs (taken-outer depth cs para q qs s),
    )

cut-sound : (depth : ℕ) (cs : List Class) (para : ℕ) (qs : List ℕ) → (state_within depth cs para qs).sound ≡ true →
    IsOverflowTail depth cs para [] qs
cut-sound depth cs para qs s =
    let a = all_taken depth cs para qs s in
    let z = no_overflow depth cs para qs s in
    record {
      sound = s;
      entries = refl;
      one_each = a.0;
      overflow_isolates = z.0;
      overflow_embeddings = z.1;
      valid_isolates = a.1;
    }

cut-rejected : (depth : ℕ) (cs : List Class) (para q : ℕ) (rejected taken : List ℕ) →
    is_taken depth cs para q (rejected ++ taken) ≡ false → IsOverflowTail depth cs para rejected taken →
    IsOverflowTail depth cs para (q ∷ rejected) taken
cut-rejected depth cs para q rejected taken t c =
    let t' = λ (q : ℕ). not (is_isolate cs q) in
    record {
      sound = c.sound;
      entries = rw t c.entries;
      one_each = c.one_each;
      overflow_isolates = rw t (ap (λ k. bit (is_isolate cs q) + k) c.overflow_isolates ∙
          sym (count-cons (is_isolate cs) q rejected));
      overflow_embeddings = elim (cases_lt 0 (overflow_isolates_of depth cs para (rejected ++ taken))) [
        | inl more ↦
            let some : suffix_len t' rejected < length rejected =
            suffix-some (is_isolate cs) rejected (omega (arith, c.overflow_isolates)) in
            let off : (suffix_len t' rejected == length rejected) ≡ false =
            ne_eqb (suffix_len t' rejected) (length rejected) (λ e. omega arith) in
            let none : (is_isolate cs q || nat_lt 0 (overflow_isolates_of depth cs para (rejected ++ taken))) ≡ true =
            or_right (is_isolate cs q) (nat_lt 0 (overflow_isolates_of depth cs para (rejected ++ taken)))
            (lt-ltb 0 (overflow_isolates_of depth cs para (rejected ++ taken)) more) in
            let s : suffix_len t' (q ∷ rejected) ≡ suffix_len t' rejected = suffix-cons t' q rejected ∙ rw off refl in
            rw (t, none) (omega (arith, s, c.overflow_embeddings))
        | inr nothing ↦
            let all : suffix_len t' rejected ≡ length rejected =
            suffix-all (is_isolate cs) rejected (omega (arith, c.overflow_isolates)) in
            let on : (suffix_len t' rejected == length rejected) ≡ true =
            eq-eqb (suffix_len t' rejected) (length rejected) all in
            let none : nat_lt 0 (overflow_isolates_of depth cs para (rejected ++ taken)) ≡ false =
            le-ltb 0 (overflow_isolates_of depth cs para (rejected ++ taken)) (omega arith) in
            elim (cases_Bool (is_isolate cs q)) [
              | inl u ↦
                  let s : suffix_len t' (q ∷ rejected) ≡ length rejected + 0 = suffix-cons t' q rejected ∙
                  rw (on, u) refl in
                  rw (t, u) (omega (arith, s, c.overflow_embeddings, all))
              | inr u ↦
                  let s : suffix_len t' (q ∷ rejected) ≡ length rejected + 1 = suffix-cons t' q rejected ∙
                  rw (on, u) refl in
                  rw (t, u, none) (omega (arith, s, c.overflow_embeddings, all))
            ]
      ];
      valid_isolates = rw t (omega (arith, c.valid_isolates));
    }

-- whichever initiators are open, the overflow ones are inside the valid ones, so they come first in the list
pub cut_of : (depth : ℕ) (cs : List Class) (para : ℕ) (qs : List ℕ) → (rejected : List ℕ) × (taken : List ℕ) ×
    (qs ≡ rejected ++ taken) × IsOverflowTail depth cs para rejected taken
cut_of depth cs para [] = ([], [], refl, cut-sound depth cs para [] refl)
cut_of depth cs para (q ∷ qs) =
    elim (cases_Bool (is_taken depth cs para q qs)) [
      | inl t ↦ ([], q ∷ qs, refl, cut-sound depth cs para (q ∷ qs) t)
      | inr t ↦
          let ih = cut_of depth cs para qs in (
            q ∷ ih.0,
            ih.1,
            ap (λ xs. q ∷ xs) ih.2,
            cut-rejected depth cs para q ih.0 ih.1 (ap (is_taken depth cs para q) (sym ih.2) ∙ t) ih.3,
          )
    ]
