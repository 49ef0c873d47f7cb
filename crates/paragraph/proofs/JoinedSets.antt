-- The set that joins two sets of classes.
use Rattle.std.proofs.Common.{◌≡◌, ℕ, ◌*◌, ◌^◌, ◌≤◌, Bool, true, false, cond, List, ◌++◌, max, sym, ap, ◌∙◌, inl, inr, arith}
use Rattle.std.specs.Prelude.{◌||◌}
use Rattle.std.specs.Int.RustNames.{bit_or}
use Rattle.std.specs.List.{list_any}
use Rattle.std.proofs.lemmas.List.Folds.{list_any-append}
use Rattle.std.proofs.lemmas.Nat.{mul-le}
use Rattle.std.proofs.lemmas.Nat.Bits.{and_pow, bit_at_or}
use Rattle.std.specs.Int.{bit_at}
use Rattle.std.proofs.lemmas.Bool.{cases_lt}
use Rattle.units.specs.declared.class.Class.{Class}
use Rattle.resolve.specs.ClassSets.{class_number}
use Rattle.paragraph.specs.ClassSets.{IsSetOf, is_class}
use Rattle.paragraph.specs.declared.class_set.ClassSet.{ClassSet}

-- two numbers that are 0 or p, and the greater one
greater : (m n p : ℕ) (s t : Bool) → m ≡ cond s p 0 → n ≡ cond t p 0 → max m n ≡ cond (s || t) p 0
greater m n p true true e f = omega (arith, e, f)
greater m n p true false e f = omega (arith, e, f)
greater m n p false true e f = omega (arith, e, f)
greater m n p false false e f = omega (arith, e, f)

-- the greater bit
max_mul : (x y p : ℕ) → max x y * p ≡ max (x * p) (y * p)
max_mul x y p = elim (cases_lt x y) [
  | inl less ↦
      let first : x * p ≤ y * p = mul-le x p y p (omega (arith, less)) (omega arith) in
      ap (λ (n : ℕ). n * p) {x = max x y} {y = y} (omega (arith, less)) ∙ omega (arith, first)
  | inr more ↦
      let second : y * p ≤ x * p = mul-le y p x p more (omega arith) in
      ap (λ (n : ℕ). n * p) {x = max x y} {y = x} (omega (arith, more)) ∙ omega (arith, second)
]

pub joined_set : (a b : ClassSet) (cs ds : List Class) → IsSetOf a cs → IsSetOf b ds →
    IsSetOf (record { bits = bit_or a.bits b.bits }) (cs ++ ds)
joined_set a b cs ds in_a in_b = record {
  bits = λ c.
      let k : ℕ = class_number c in
      and_pow (bit_or a.bits b.bits) k ∙ ap (λ (n : ℕ). n * 2 ^ k) (bit_at_or a.bits b.bits k)
      ∙ max_mul (bit_at a.bits k) (bit_at b.bits k) (2 ^ k)
      ∙ greater _ _ (2 ^ k) (list_any (is_class c) cs) (list_any (is_class c) ds)
      (sym (and_pow a.bits k) ∙ in_a.bits c) (sym (and_pow b.bits k) ∙ in_b.bits c)
      ∙ ap (λ (t : Bool). cond t (2 ^ k) 0) (sym (list_any-append (is_class c) cs ds));
}
