-- N0: what a bracket gives, where something that is no bracket occurs after the item at k.
use Rattle.std.specs.Prelude.{Option, None, ℕ, zero, suc, ◌+◌, ◌-◌, ◌<◌, ◌≤◌, Bool, true, false, ◌&&◌, ◌||◌, ◌≡◌, List, [], ◌∷◌, length, if◌then◌else◌, slice_range, is_some, refl}
use Rattle.std.proofs.Common.{arith, ap, sym, subst, ◌∙◌, ◌⊎◌, inl, inr, cond, drop, take}
use Rattle.std.proofs.lemmas.Bool.{cases_lt}
use Rattle.units.specs.Brackets.{strong_as, same_direction, occurs_in, context_before, follows_bracket, given_to}
use Rattle.units.specs.Classes.{class_at, is_nonspacing}
use Rattle.units.specs.declared.class.Class.{Class}
use Rattle.units.specs.declared.class.Class.TheVariants.{L, R}
use Rattle.units.proofs.Lengths.{length-at_each}
use Rattle.compress.specs.Spread.{put}
use Rattle.resolve.proofs.AtEach.{class_at-at_each, same_classes}
use Rattle.compress.proofs.Following.{and-true, follows_bracket-below, follows_bracket-same, follows_bracket-more, follows_bracket-past}
use Rattle.compress.proofs.Skip.{skip, skip_low, skip_high, skip_less, skip_at_most, skip_next, at-skip, at-put, length-put}

-- each index is that of the item that was put in, or a new one of an old item
skip_onto : (k i : ℕ) → (i ≡ suc k) ⊎ ((j : ℕ) × (i ≡ skip k j))
skip_onto k zero = inr (zero, refl)
skip_onto zero (suc zero) = inl refl
skip_onto zero (suc (suc i)) = inr (suc i, refl)
skip_onto (suc k) (suc i) =
    elim (skip_onto k i) [
      | inl e ↦ inl (ap (λ n. suc n) e)
      | inr (j, e) ↦ inr (suc j, ap (λ n. suc n) e)
    ]

module _ (k : ℕ) (m : Class) (before : List Class) (inside : k < length before) where
  abbrev new : List Class
  new = put k m before

  new_mark : (i : ℕ) → is_nonspacing (class_at new (skip k i)) ≡ is_nonspacing (class_at before i)
  new_mark i = ap is_nonspacing (at-skip k m before i L)

  mark_put : is_nonspacing (class_at new (suc k)) ≡ is_nonspacing m
  mark_put = ap is_nonspacing (at-put k m before L inside)

  -- by the step past the item that was put in
  follows-moved : (b : ℕ) → (b ≤ k → follows_bracket new (skip k b) (skip k k) ≡ follows_bracket before b k → follows_bracket new (skip k b) (suc (suc k)) ≡ follows_bracket before b (suc k)) →
      (j : ℕ) → follows_bracket new (skip k b) (skip k j) ≡ follows_bracket before b j
  follows-moved b past zero =
      elim (cases_lt 0 b) [
        | inl below ↦ follows_bracket-below new (skip k b) 0 (skip_less k 0 b below) ∙ sym (follows_bracket-below before b 0 below)
        | inr h ↦ (let e : b ≡ 0 = omega arith in
            ap (λ c. follows_bracket new (skip k c) 0) e ∙ follows_bracket-same new 0 ∙ sym (ap (λ c. follows_bracket before c 0) e ∙ follows_bracket-same before 0))
      ]
  follows-moved b past (suc j) =
      elim (cases_lt (suc j) b) [
        | inl below ↦ follows_bracket-below new (skip k b) (skip k (suc j)) (skip_less k (suc j) b below) ∙ sym (follows_bracket-below before b (suc j) below)
        | inr from ↦ elim (cases_lt b (suc j)) [
          | inr h ↦ (let e : b ≡ suc j = omega arith in
              ap (λ c. follows_bracket new (skip k c) (skip k (suc j))) e ∙ follows_bracket-same new (skip k (suc j)) ∙ sym (ap (λ c. follows_bracket before c (suc j)) e ∙ follows_bracket-same before (suc j)))
          | inl later ↦ elim (skip_next k j) [
            | inl e ↦
                ap (follows_bracket new (skip k b)) e
                ∙ follows_bracket-more new (skip k b) (skip k j) (skip_at_most k b j (omega arith))
                ∙ ap (λ (t : Bool). t && is_nonspacing (class_at new (suc (skip k j)))) (follows-moved b past j)
                ∙ ap (λ (i : ℕ). follows_bracket before b j && is_nonspacing (class_at new i)) (sym e)
                ∙ ap (λ (t : Bool). follows_bracket before b j && t) (new_mark (suc j))
                ∙ sym (follows_bracket-more before b j (omega arith))
            | inr (e, (h, i)) ↦
                ap (follows_bracket new (skip k b)) e
                ∙ past (omega arith) (subst (λ (n : ℕ). follows_bracket new (skip k b) (skip k n) ≡ follows_bracket before b n) i (follows-moved b past j))
                ∙ ap (λ (n : ℕ). follows_bracket before b (suc n)) (sym i)
          ]
        ]
      ]

  -- what is no mark, after what is no mark and no bracket
  module _ (plain : is_nonspacing m ≡ false) (ends : is_nonspacing (class_at before k) ≡ false) where
    ends_new : is_nonspacing (class_at new k) ≡ false
    ends_new = ap (λ (i : ℕ). is_nonspacing (class_at new i)) (sym (skip_low k k (omega arith))) ∙ new_mark k ∙ ends

    pub follows-plain : (b : ℕ) → (b ≡ k → ⊥) → (j : ℕ) → follows_bracket new (skip k b) (skip k j) ≡ follows_bracket before b j
    follows-plain b apart = follows-moved b (λ le e.
        let lt : b < k = omega arith in
        let low : skip k b ≡ b = skip_low k b le in
        follows_bracket-past new (skip k b) k (omega arith) ends_new (suc (suc k)) (omega arith)
        ∙ sym (follows_bracket-past before b k lt ends (suc k) (omega arith)))

    pub follows-plain-put : (b : ℕ) → (b ≡ k → ⊥) → follows_bracket new (skip k b) (suc k) ≡ false
    follows-plain-put b apart =
        elim (cases_lt k b) [
          | inl above ↦ (let high = skip_high k b above in follows_bracket-below new (skip k b) (suc k) (omega arith))
          | inr le ↦ (let low = skip_low k b (omega arith) in follows_bracket-past new (skip k b) k (omega arith) ends_new (suc k) (omega arith))
        ]

  -- a mark
  module _ (mark : is_nonspacing m ≡ true) where
    pub follows-mark-put : (b : ℕ) → b ≤ k → follows_bracket new (skip k b) (suc k) ≡ follows_bracket new (skip k b) (skip k k)
    follows-mark-put b le =
        let low : skip k k ≡ k = skip_low k k (omega arith) in
        ap (λ (n : ℕ). follows_bracket new (skip k b) (suc n)) (sym low)
        ∙ follows_bracket-more new (skip k b) (skip k k) (skip_at_most k b k le)
        ∙ and-true (follows_bracket new (skip k b) (skip k k)) (is_nonspacing (class_at new (suc (skip k k))))
        (ap (λ (n : ℕ). is_nonspacing (class_at new (suc n))) low ∙ mark_put ∙ mark)

    pub follows-mark : (b j : ℕ) → follows_bracket new (skip k b) (skip k j) ≡ follows_bracket before b j
    follows-mark b = follows-moved b (λ le e.
        let next : skip k (suc k) ≡ suc (suc k) = skip_high k (suc k) (omega arith) in
        let low = skip_low k b le in
        follows_bracket-more new (skip k b) (suc k) (omega arith)
        ∙ ap (λ (t : Bool). t && is_nonspacing (class_at new (suc (suc k)))) (follows-mark-put b le ∙ e)
        ∙ ap (λ (n : ℕ). follows_bracket before b k && is_nonspacing (class_at new n)) (sym next)
        ∙ ap (λ (t : Bool). follows_bracket before b k && t) (new_mark (suc k))
        ∙ sym (follows_bracket-more before b k le))

    pub follows-mark-k : (b : ℕ) → follows_bracket new (skip k b) (suc k) ≡ follows_bracket before b k
    follows-mark-k b =
        elim (cases_lt k b) [
          | inl above ↦ (let high = skip_high k b above in follows_bracket-below new (skip k b) (suc k) (omega arith) ∙ sym (follows_bracket-below before b k above))
          | inr le ↦ follows-mark-put b (omega arith) ∙ follows-mark b k
        ]

pub length-given_to : (before : List Class) (b : ℕ) (direction : Class) (cs : List Class) → length (given_to before b direction cs) ≡ length cs
length-given_to before b direction cs = length-at_each (λ k. if follows_bracket before b k then direction else class_at cs k) cs

pub given_at : (before : List Class) (b : ℕ) (direction : Class) (cs : List Class) (j : ℕ) → j < length cs → class_at (given_to before b direction cs) j ≡ (if follows_bracket before b j then direction else class_at cs j)
given_at before b direction cs j h = class_at-at_each (λ k. if follows_bracket before b k then direction else class_at cs k) cs j h

-- what is given, by the new indices
pub given_to-moved : (k : ℕ) (x : Class) (before new : List Class) (b b' : ℕ) (d : Class) (cs : List Class) → k < length cs →
    ((j : ℕ) → follows_bracket new b' (skip k j) ≡ follows_bracket before b j) →
    given_to new b' d (put k x cs) ≡ put k (if follows_bracket new b' (suc k) then d else x) (given_to before b d cs)
given_to-moved k x before new b b' d cs inside same =
    let old : List Class = given_to before b d cs in
    let y : Class = if follows_bracket new b' (suc k) then d else x in
    let n : length (given_to new b' d (put k x cs)) ≡ skip k (length cs) = length-given_to new b' d (put k x cs) ∙ length-put k x cs in
    let m : length (put k y old) ≡ skip k (length cs) = length-put k y old ∙ ap (skip k) (length-given_to before b d cs) in
    let p : length (put k x cs) ≡ skip k (length cs) = length-put k x cs in
    same_classes (given_to new b' d (put k x cs)) (put k y old) (n ∙ sym m) (λ i lt.
    elim (skip_onto k i) [
      | inl e ↦
          ap (class_at (given_to new b' d (put k x cs))) e
          ∙ given_at new b' d (put k x cs) (suc k) (omega (arith, skip_less k k (length cs) inside, skip_low k k))
          ∙ ap (λ (c : Class). if follows_bracket new b' (suc k) then d else c) (at-put k x cs L inside)
          ∙ sym (ap (class_at (put k y old)) e ∙ at-put k y old L (omega (arith, length-given_to before b d cs)))
      | inr (j, e) ↦
          (let within : j < length cs = elim (cases_lt j (length cs)) [
            | inl h ↦ h
            | inr h ↦ absurd (omega (arith, skip_at_most k (length cs) j (omega arith)))
          ] in
          ap (class_at (given_to new b' d (put k x cs))) e
          ∙ given_at new b' d (put k x cs) (skip k j) (omega (arith, skip_less k j (length cs) within))
          ∙ ap (λ (t : Bool). if t then d else class_at (put k x cs) (skip k j)) (same j)
          ∙ ap (λ (c : Class). if follows_bracket before b j then d else c) (at-skip k x cs j L)
          ∙ sym (ap (class_at (put k y old)) e ∙ at-skip k y old j L ∙ given_at before b d cs j within))
    ])

-- what occurs inside: the item that was put in counts as nothing, or as the one before it
abbrev pub Counts : ℕ → Class → List Class → Type 0
Counts k x cs = (strong_as x ≡ None) ⊎ (x ≡ class_at cs k)

same_none : (d : Class) → same_direction d None ≡ false
same_none L = refl
same_none R = refl
same_none d = refl

or_again : (a b : Bool) → (a || (a || b)) ≡ (a || b)
or_again true b = refl
or_again false b = refl

abbrev counts_as : Class → Class → Bool
counts_as d c = same_direction d (strong_as c)

take-found : (k : ℕ) (x d : Class) (cs : List Class) → Counts k x cs → (n : ℕ) → occurs_in (take (skip k n) (put k x cs)) d ≡ occurs_in (take n cs) d
take-found k x d cs h zero = refl
take-found zero x d [] h (suc n) = refl
take-found (suc k) x d [] h (suc n) = refl
take-found zero x d (c ∷ cs) (inl none) (suc n) =
    ap (λ (s : Option Class). counts_as d c || (same_direction d s || occurs_in (take n cs) d)) none
    ∙ ap (λ (b : Bool). counts_as d c || (b || occurs_in (take n cs) d)) (same_none d)
take-found zero x d (c ∷ cs) (inr e) (suc n) =
    ap (λ (y : Class). counts_as d c || (counts_as d y || occurs_in (take n cs) d)) e ∙ or_again (counts_as d c) (occurs_in (take n cs) d)
take-found (suc k) x d (c ∷ cs) h (suc n) = ap (λ (b : Bool). counts_as d c || b) (take-found k x d cs h n)

found-nil : (a b : ℕ) (d : Class) → occurs_in (take a (drop b [])) d ≡ false
found-nil zero b d = refl
found-nil (suc a) zero d = refl
found-nil (suc a) (suc b) d = refl

found-none : (o : ℕ) (d : Class) (cs : List Class) → occurs_in (slice_range cs (o + 1) 0) d ≡ false
found-none o d cs = let e : 0 - (o + 1) ≡ 0 = omega arith in ap (λ n. occurs_in (take n (drop (o + 1) cs)) d) e

found-here : (c : ℕ) (d y : Class) (cs : List Class) → occurs_in (slice_range (y ∷ cs) (0 + 1) (suc c)) d ≡ occurs_in (take c cs) d
found-here c d y cs = let e : suc c - 1 ≡ c = omega arith in ap (λ n. occurs_in (take n cs) d) e

found-later : (o c : ℕ) (d y : Class) (cs : List Class) → occurs_in (slice_range (y ∷ cs) (suc o + 1) (suc c)) d ≡ occurs_in (slice_range cs (o + 1) c) d
found-later o c d y cs =
    let e : suc c - (suc o + 1) ≡ c - (o + 1) = omega arith in
    let f : suc o + 1 ≡ suc (o + 1) = omega arith in
    ap (λ n. occurs_in (take n (drop (suc o + 1) (y ∷ cs))) d) e ∙ ap (λ n. occurs_in (take (c - (o + 1)) (drop n (y ∷ cs))) d) f

pub found-moved : (k : ℕ) (x d : Class) (cs : List Class) → Counts k x cs → (o c : ℕ) → (o ≡ k → strong_as x ≡ None) →
    occurs_in (slice_range (put k x cs) (skip k o + 1) (skip k c)) d ≡ occurs_in (slice_range cs (o + 1) c) d
found-moved k x d [] h o c unseen = found-nil (skip k c - (skip k o + 1)) (skip k o + 1) d ∙ sym (found-nil (c - (o + 1)) (o + 1) d)
found-moved k x d (y ∷ cs) h o zero unseen = found-none (skip k o) d (put k x (y ∷ cs)) ∙ sym (found-none o d (y ∷ cs))
found-moved zero x d (y ∷ cs) h zero (suc c) unseen =
    found-here (suc c) d y (x ∷ cs)
    ∙ ap (λ (s : Option Class). same_direction d s || occurs_in (take c cs) d) (unseen refl) ∙ ap (λ (b : Bool). b || occurs_in (take c cs) d) (same_none d)
    ∙ sym (found-here c d y cs)
found-moved (suc k) x d (y ∷ cs) h zero (suc c) unseen = found-here (skip k c) d y (put k x cs) ∙ take-found k x d cs h c ∙ sym (found-here c d y cs)
found-moved zero x d (y ∷ cs) h (suc o) (suc c) unseen =
    found-later (suc o) (suc c) d y (x ∷ cs) ∙ found-later o c d x cs ∙ sym (found-later o c d y cs)
found-moved (suc k) x d (y ∷ cs) h (suc o) (suc c) unseen =
    found-later (skip k o) (skip k c) d y (put k x cs) ∙ found-moved k x d cs h o c (λ e. unseen (ap (λ n. suc n) e)) ∙ sym (found-later o c d y cs)

-- and what occurs before
context_next : (cs : List Class) (sos : Class) (k : ℕ) → context_before cs sos (suc k) ≡ cond (is_some (strong_as (class_at cs k))) (class_at cs k) (context_before cs sos k)
context_next cs sos k = grind arith

cond_again : (b : Bool) (c d : Class) → cond b c (cond b c d) ≡ cond b c d
cond_again true c d = refl
cond_again false c d = refl

context_put : (k : ℕ) (x : Class) (cs : List Class) → Counts k x cs → (r : Class) →
    cond (is_some (strong_as x)) x (cond (is_some (strong_as (class_at cs k))) (class_at cs k) r) ≡ cond (is_some (strong_as (class_at cs k))) (class_at cs k) r
context_put k x cs (inl none) r = ap (λ (s : Option Class). cond (is_some s) x (cond (is_some (strong_as (class_at cs k))) (class_at cs k) r)) none
context_put k x cs (inr e) r =
    let c : Class = class_at cs k in
    ap (λ (y : Class). cond (is_some (strong_as y)) y (cond (is_some (strong_as c)) c r)) e ∙ cond_again (is_some (strong_as c)) c r

pub context-moved : (k : ℕ) (x : Class) (cs : List Class) (sos : Class) → k < length cs → Counts k x cs → (o : ℕ) → context_before (put k x cs) sos (skip k o) ≡ context_before cs sos o
context-moved k x cs sos inside h zero = refl
context-moved k x cs sos inside h (suc o) =
    let new : List Class = put k x cs in
    let step : context_before new sos (suc (skip k o)) ≡ context_before cs sos (suc o) =
    context_next new sos (skip k o)
    ∙ ap (λ (c : Class). cond (is_some (strong_as c)) c (context_before new sos (skip k o))) (at-skip k x cs o L)
    ∙ ap (λ (r : Class). cond (is_some (strong_as (class_at cs o))) (class_at cs o) r) (context-moved k x cs sos inside h o)
    ∙ sym (context_next cs sos o) in
    elim (skip_next k o) [
      | inl e ↦ ap (context_before new sos) e ∙ step
      | inr (e, (f, i)) ↦
          ap (context_before new sos) e ∙ context_next new sos (suc k)
          ∙ ap (λ (c : Class). cond (is_some (strong_as c)) c (context_before new sos (suc k))) (at-put k x cs L inside)
          ∙ ap (λ (n : ℕ). cond (is_some (strong_as x)) x (context_before new sos (suc n))) (sym f)
          ∙ ap (λ (r : Class). cond (is_some (strong_as x)) x r) (step ∙ ap (λ (n : ℕ). context_before cs sos (suc n)) i ∙ context_next cs sos k)
          ∙ context_put k x cs h (context_before cs sos k)
          ∙ sym (ap (λ (n : ℕ). context_before cs sos (suc n)) i ∙ context_next cs sos k)
    ]
