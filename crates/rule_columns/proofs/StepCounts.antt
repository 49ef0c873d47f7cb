-- The number of steps of a pass that searches ahead.
use Rattle.std.specs.Prelude.{Option, Some, None, Bool, true, false, ℕ, ◌+◌, ◌*◌, ◌<◌, ◌≤◌, ◌≡◌, List, ◌∷◌, length, refl}
use Rattle.std.specs.List.{prefix_len}
use Rattle.std.proofs.Common.{arith, ap, ◌∙◌, drop}
use Rattle.std.proofs.lemmas.Bool.{cond-true, cond-false}
use Rattle.std.proofs.lemmas.List.{drop_all}
use Rattle.units.specs.Classes.{class_at}
use Rattle.units.specs.declared.class.Class.{Class}
use Rattle.resolve.proofs.AtEach.{drop-class_at}

-- the length of the run of this kind with which a list begins
pub run_here : (kind : Class → Bool) (c : Class) (cs : List Class) → kind c ≡ true →
    prefix_len kind (c ∷ cs) ≡ prefix_len kind cs + 1
run_here kind c cs t = cond-true (kind c) _ _ t ∙ omega arith

pub run_ends : (kind : Class → Bool) (c : Class) (cs : List Class) → kind c ≡ false → prefix_len kind (c ∷ cs) ≡ 0
run_ends kind c cs f = cond-false (kind c) _ _ f

abbrev pub owed : (kind : Class → Bool) → List Class → ℕ → Option Class → ℕ
owed kind from k None = 0
owed kind from k (Some c) = prefix_len kind (drop k from)

-- the steps of a pass at index k; inside a run the search ahead is already counted
pub record StepCount (kind : Class →
    Bool) (from : List Class) (k : ℕ) (ahead : Option Class) (start now : ℕ) : Type 0 where
  pub at_least : start + k ≤ now
  pub at_most : now ≤ start + 2 * k + owed kind from k ahead

pub count_start : (kind : Class → Bool) (from : List Class) (start : ℕ) → StepCount kind from 0 None start start
count_start kind from start = record { at_least = omega arith; at_most = omega arith }

owed_here : (kind : Class → Bool) (from : List Class) (k : ℕ) (c : Class) → k < length from →
    kind (class_at from k) ≡ true →
    owed kind from k (Some c) ≡ prefix_len kind (drop (k + 1) from) + 1
owed_here kind from k c l t = ap (prefix_len kind) (drop-class_at from k l) ∙
    run_here kind (class_at from k) (drop (k + 1) from) t

owed_none : (kind : Class → Bool) (from : List Class) (k : ℕ) (ahead : Option Class) → k < length from →
    kind (class_at from k) ≡ false → owed kind from k ahead ≡ 0
owed_none kind from k None l f = refl
owed_none kind from k (Some c) l f = ap (prefix_len kind) (drop-class_at from k l) ∙
    run_ends kind (class_at from k) (drop (k + 1) from) f

owed_past : (kind : Class → Bool) (from : List Class) (k : ℕ) (ahead : Option Class) → length from ≤ k →
    owed kind from k ahead ≡ 0
owed_past kind from k None l = refl
owed_past kind from k (Some c) l = ap (prefix_len kind) (drop_all k from l)

module _ {kind : Class → Bool} {from : List Class} {k : ℕ} {ahead : Option Class} {start now : ℕ}
    (w : StepCount kind from k ahead start now) where
  -- if a run begins here, its whole length is counted
  pub count_new : (n : ℕ) → n ≡ prefix_len kind (drop (k + 1) from) → ahead ≡ None → (later : ℕ) → now + 1 ≤ later →
      later ≤ now + 1 + n + 1 →
      (v : Class) → (j : ℕ) → j ≡ k + 1 → StepCount kind from j (Some v) start later
  count_new n e none later a b v j i = grind arith

  -- if a run continues, it is already counted
  pub count_same : (c : Class) → ahead ≡ Some c → k < length from → kind (class_at from k) ≡ true → (later : ℕ) →
      later ≡ now + 1 →
      (v : Class) → (j : ℕ) → j ≡ k + 1 → StepCount kind from j (Some v) start later
  count_same c some l t later a v j i =
      let due : owed kind from k ahead ≡ prefix_len kind (drop (k + 1) from) + 1 = ap (owed kind from k) some ∙
      owed_here kind from k c l t in
      let next : prefix_len kind (drop j from) ≡ prefix_len kind (drop (k + 1) from) =
      ap (λ i. prefix_len kind (drop i from)) i in
      record { at_least = omega (arith, w.at_least); at_most = omega (arith, w.at_most, due, next) }

  -- outside the runs nothing is counted in advance
  pub count_other : k < length from → kind (class_at from k) ≡ false → (later : ℕ) → later ≡ now + 1 → (j : ℕ) →
      j ≡ k + 1 → StepCount kind from j None start later
  count_other l f later a j i =
      record {
        at_least = omega (arith, w.at_least);
        at_most =
            omega (arith, w.at_most, owed_none kind from k ahead l f);
      }

  pub count_end : length from ≤ k → now ≤ start + 2 * k
  count_end l = omega (arith, w.at_most, owed_past kind from k ahead l)
