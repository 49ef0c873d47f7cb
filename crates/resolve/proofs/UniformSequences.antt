-- Sequences that keep their level: their classes are tested four at a time, and their positions get one level.
use Rattle.std.specs.Prelude.{◌||◌, not, false, Option, Some, ℕ, Bool, true, false, ◌+◌, ◌-◌, ◌<◌, ◌≤◌, ◌≡◌, List, length, map, Contains, IsTrue, nat_eq, slice_index}
use Rattle.std.specs.List.{All}
use Rattle.std.proofs.Common.{arith, ap, sym, subst, ◌∙◌, inl, inr}
use Rattle.std.proofs.lemmas.Bool.{both_ways, not-false, or_parts, cases_lt, eq-eqb, eqb-true}
use Rattle.std.proofs.lemmas.List.{get_or-map, get_or_default}
use Rattle.units.specs.Classes.{class_at, classes_at}
use Rattle.units.specs.Implicit.{implicit_level}
use Rattle.units.specs.Runs.{direction_of}
use Rattle.units.specs.declared.class.Class.{Class}
use Rattle.units.specs.declared.class.Class.TheVariants.{L}
use Rattle.explicit.proofs.Staying.{own_level}
use Rattle.explicit.specs.Uniform.{stays_at}
use Rattle.sequences.specs.Links.{ArePositions}
use Rattle.resolve.specs.ClassSets.{holds}
use Rattle.resolve.specs.Raised.{resolved_at}
use Rattle.resolve.specs.Repeats.{AreWithout, holds_at, holds_one_of_four, with_along}
use Rattle.resolve.specs.Resolved.{KeepsOtherLevels}
use Rattle.resolve.specs.declared.class_set.ClassSet.{ClassSet}
use Rattle.resolve.proofs.Along.{all_more, raise_run}
use Rattle.resolve.proofs.Gathered.{class_at-classes_at, length-classes_at}
use Rattle.resolve.proofs.Raising.{RaisePass, raise_start}

-- four indices more
pub without_four : (set : ClassSet) (ps : List ℕ) (k : ℕ) (cs : List Class) → AreWithout set ps 0 k cs →
    k + 4 ≤ length ps → holds_one_of_four set ps k cs ≡ false → AreWithout set ps 0 (k + 4) cs
without_four set ps k cs all within four =
    let at : ℕ → Bool = holds_at set ps cs in
    let three = or_parts ((at k || at (k + 1)) || at (k + 2)) (at (k + 3)) four in
    let two = or_parts (at k || at (k + 1)) (at (k + 2)) three.0 in
    let one = or_parts (at k) (at (k + 1)) two.0 in
    let a : AreWithout set ps 0 (k + 1) cs = all_more all (omega arith) one.0 in
    let b : AreWithout set ps 0 (k + 1 + 1) cs = all_more a (omega arith) one.1 in
    let e : k + 1 + 1 ≡ k + 2 = omega arith in
    let c : AreWithout set ps 0 (k + 2 + 1) cs =
    all_more (subst (λ j. AreWithout set ps 0 j cs) e b) (omega arith) two.1 in
    let f : k + 2 + 1 ≡ k + 3 = omega arith in
    let d : AreWithout set ps 0 (k + 3 + 1) cs =
    all_more (subst (λ j. AreWithout set ps 0 j cs) f c) (omega arith) three.1 in
    let g : k + 3 + 1 ≡ k + 4 = omega arith in
    subst (λ j. AreWithout set ps 0 j cs) g d

-- the set has the classes that don't stay at a level
module _ (set : ClassSet) (level : ℕ) (is : (c : Class) → holds set c ≡ not (stays_at level c)) (ps : List ℕ)
    (cs : List Class) where
  -- the class at an index, if all stay
  pub without_at : (k : ℕ) → k < length ps → All (λ c. stays_at level c ≡ true) (classes_at cs ps) →
      holds set (class_at cs (slice_index ps k)) ≡ false
  without_at k lt stay =
      is (class_at cs (slice_index ps k))
      ∙ ap (λ c. not (stays_at level c)) (sym (class_at-classes_at cs ps k lt))
      ∙ ap not (stay k L (omega (arith, length-classes_at cs ps)))

  -- the test of a whole sequence, up to the first index with a class in the set
  module _ (k : ℕ) (all : AreWithout set ps 0 k cs)
      (end : k < length ps → holds set (class_at cs (slice_index ps k)) ≡ true) where
    pub stay_if_without : IsTrue (nat_eq k (length ps)) → All (λ c. stays_at level c ≡ true) (classes_at cs ps)
    stay_if_without e = λ i d lt.
        let low : i < length ps = omega (arith, length-classes_at cs ps) in
        let whole : k ≡ length ps = eqb-true k (length ps) e in
        let free : holds set (class_at cs (slice_index ps i)) ≡ false = all.each i (omega arith) (omega arith) in
        ap (stays_at level) (get_or-map (class_at cs) ps i 0 d low)
        ∙ not-false _ (sym (is (class_at cs (slice_index ps i))) ∙ free)

    pub without_if_stay : All (λ c. stays_at level c ≡ true) (classes_at cs ps) → IsTrue (nat_eq k (length ps))
    without_if_stay stay = elim (cases_lt k (length ps)) [
      | inl lt ↦ absurd (both_ways _ (without_at k lt stay) (end lt))
      | inr ge ↦ eq-eqb k (length ps) (omega (arith, all.within))
    ]

-- one level at all positions of a sequence
module _ (level : ℕ) (ps : List ℕ) (old : List (Option ℕ)) (are : ArePositions ps (length old)) where
  abbrev directions : List Class
  directions = map (λ (p : ℕ). direction_of level) ps

  one_level : RaisePass level directions ps old (with_along ps 0 (length ps) (Some level) old) (0 + length ps)
  one_level =
      raise_run (raise_start level directions ps old are) level (length ps) (omega arith)
      (λ i low high.
      sym (own_level level)
      ∙ ap (implicit_level level) (sym (get_or-map (λ (p : ℕ). direction_of level) ps i 0 L (omega arith))))

  pub given_level : (p : ℕ) → Contains ps p → resolved_at (with_along ps 0 (length ps) (Some level) old) p ≡ Some level
  given_level p c =
      let k : ℕ = c.0 in
      let here : slice_index ps k ≡ p = get_or_default ps k 0 p c.1 ∙ c.2 in
      ap (resolved_at (with_along ps 0 (length ps) (Some level) old)) (sym here)
      ∙ one_level.values k (omega (arith, c.1))
      ∙ ap (λ (d : Class). Some (implicit_level level d)) (get_or-map (λ (p : ℕ). direction_of level) ps k 0 L c.1)
      ∙ ap Some (own_level level)

  pub others_unchanged : KeepsOtherLevels ps old (with_along ps 0 (length ps) (Some level) old)
  others_unchanged = one_level.others

-- the same, as the pass that writes it ends
pub written_level : (ps qs : List ℕ) (k level number : ℕ) (old now : List (Option ℕ)) →
    now ≡ with_along ps 0 (k - 0) (Some number) old → k ≡ length ps → ps ≡ qs → number ≡ level →
    now ≡ with_along qs 0 (length qs) (Some level) old
written_level ps qs k level number old now is end same named =
    let n : k - 0 ≡ length ps = omega arith in
    is
    ∙ ap (λ m. with_along ps 0 m (Some number) old) n
    ∙ ap (λ (rs : List ℕ). with_along rs 0 (length rs) (Some number) old) same
    ∙ ap (λ v. with_along qs 0 (length qs) (Some v) old) named
