-- A pass whose rule reads the classes just before and just after.
use Rattle.std.specs.Prelude.{ℕ, ◌+◌, ◌<◌, ◌≤◌, ◌≡◌, List, length, slice_index, slice_get, refl}
use Rattle.std.proofs.Common.{arith, ap, sym, ◌∙◌, set, inl, inr}
use Rattle.std.proofs.lemmas.Bool.{cases_lt}
use Rattle.std.proofs.lemmas.List.{get_or-drop}
use Rattle.std.proofs.lemmas.Option.{slice_get_past, slice_get-get_or}
use Rattle.units.specs.Classes.{class_at, classes_at}
use Rattle.units.specs.Weak.{class_or, nearest_before, nearest_after, is_any, by_w4, after_w4}
use Rattle.units.specs.declared.class.Class.{Class}
use Rattle.units.specs.declared.class.Class.TheVariants.{L, ON}
use Rattle.sequences.specs.Links.{ArePositions}
use Rattle.units.proofs.Lengths.{length-at_each}
use Rattle.resolve.proofs.Gathered.{length-classes_at, class_at-classes_at}
use Rattle.resolve.proofs.Passes.{Pass, pass_start, pass_reads, pass_rest}
use Rattle.rule_columns.proofs.RulePasses.{pass_each, pass_nearest_here}

pub record SeparatorPass (ps : List ℕ) (start now : List Class) (before : Class) (k : ℕ) : Type 0 where
  pub pass : Pass ps (after_w4 (classes_at start ps)) start now k
  pub before_is : before ≡ nearest_before (classes_at start ps) is_any k ON

pub separator_start : (ps : List ℕ) (start : List Class) → ArePositions ps (length start) →
    SeparatorPass ps start start ON 0
separator_start ps start p =
    record {
      pass = pass_start ps _ start p (length-at_each _ (classes_at start ps) ∙ length-classes_at start ps);
      before_is = refl;
    }

-- the class just after an index, if there is one
next_class : (cs : List Class) (k : ℕ) → k + 1 < length cs → nearest_after cs is_any k ON ≡ class_at cs (k + 1)
next_class cs k h = grind arith

no_next_class : (cs : List Class) (k : ℕ) → length cs ≤ k + 1 → nearest_after cs is_any k ON ≡ ON
no_next_class cs k h = grind arith

pub separator_write : {ps : List ℕ} {start now : List Class} {before : Class} {k : ℕ} →
    SeparatorPass ps start now before k → k < length ps → (v : Class) →
    v ≡ by_w4 before (class_at now (slice_index ps k)) (class_or now (slice_get ps (k + 1)) ON) →
    SeparatorPass ps start (set now (slice_index ps k) v) (class_at now (slice_index ps k)) (k + 1)
separator_write {ps} {start} {now} {before} {k} w inside v is =
    let from : List Class = classes_at start ps in
    let n : length from ≡ length ps = length-classes_at start ps in
    let after_is : class_or now (slice_get ps (k + 1)) ON ≡ nearest_after from is_any k ON =
    elim (cases_lt (k + 1) (length ps)) [
      | inl more ↦
          let zero_more : k + 1 + 0 ≡ k + 1 = omega arith in
          let here : class_at (classes_at now ps) (k + 1) ≡ class_at from (k + 1) =
          ap (class_at (classes_at now ps)) (sym zero_more) ∙ sym (get_or-drop (k + 1) (classes_at now ps) 0 L)
          ∙ ap (λ (cs : List Class). class_at cs 0) (pass_rest w.pass inside)
          ∙ get_or-drop (k + 1) from 0 L ∙ ap (class_at from) zero_more in
          ap (λ o. class_or now o ON) (slice_get-get_or ps (k + 1) 0 more)
          ∙ sym (class_at-classes_at now ps (k + 1) more) ∙ here ∙ sym (next_class from k (omega (arith, n)))
      | inr last ↦ ap (λ o. class_or now o ON) (slice_get_past ps (k + 1) last) ∙
          sym (no_next_class from k (omega (arith, n)))
    ] in
    record {
      pass = pass_each w.pass inside _ refl v
          (is
          ∙ ap (λ (c : Class). by_w4 before c (class_or now (slice_get ps (k + 1)) ON)) (pass_reads w.pass inside)
          ∙ ap (λ (c : Class). by_w4 c (class_at from k) (class_or now (slice_get ps (k + 1)) ON)) w.before_is
          ∙ ap (by_w4 (nearest_before from is_any k ON) (class_at from k)) after_is);
      before_is = pass_nearest_here w.pass inside is_any ON refl;
    }
