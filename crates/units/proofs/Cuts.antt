-- What a search for a separator proves about the pieces around it.
use Rattle.std.proofs.Common.{◌≡◌, ℕ, suc, ◌+◌, ◌-◌, ◌≤◌, ◌==◌, Bool, List, [], ◌∷◌, length, get_or, take, drop, refl, sym, ap, ◌∙◌, arith, None, Some}
use Rattle.std.specs.List.{position_or_len, before_first, after_first, slice_split}
use Rattle.std.proofs.lemmas.Bool.{false_from_ne_true}
use Rattle.std.proofs.lemmas.List.{take_rest, take_all, get_or_default}
use Rattle.std.proofs.lemmas.List.Sums.{position_or_len_is}
use Rattle.std.proofs.lemmas.List.Splits.{slice_split_none, slice_split_first, length-slice_split}
use Rattle.memchr.specs.Find.{IsFirstByte}
use Rattle.units.specs.Text.{each_trimmed, fields_of, cut_at}

pub position-none : (p : ℕ → Bool) (xs : List ℕ) → IsFirstByte p xs None → position_or_len p xs ≡ length xs
position-none p xs none =
    position_or_len_is p xs (length xs) 0 (omega arith) (λ k lt.
    false_from_ne_true (p (get_or xs k 0)) (none k (omega arith) lt)) (λ lt. absurd (omega arith))

pub position-some : (p : ℕ → Bool) (xs : List ℕ) (k : ℕ) → IsFirstByte p xs (Some k) → position_or_len p xs ≡ k
position-some p xs k some =
    position_or_len_is p xs k 0 (omega (arith, some.0.high)) (λ j lt.
    false_from_ne_true (p (get_or xs j 0)) (some.0.before j (omega arith) lt)) (λ lt. some.1)

pub before_first-none : (p : ℕ → Bool) (xs : List ℕ) → IsFirstByte p xs None → xs ≡ before_first p xs
before_first-none p xs none =
    sym (ap (λ n. take n xs) (position-none p xs none) ∙ take_all (length xs) xs (omega arith))

pub before_first-some : (p : ℕ → Bool) (xs : List ℕ) (k : ℕ) → IsFirstByte p xs (Some k) → take k xs ≡ before_first p xs
before_first-some p xs k some = sym (ap (λ n. take n xs) (position-some p xs k some))

pub after_first-some : (p : ℕ → Bool) (xs : List ℕ) (k : ℕ) → IsFirstByte p xs (Some k) →
    take (length xs - (k + 1)) (drop (k + 1) xs) ≡ after_first p xs
after_first-some p xs k some = take_rest xs (k + 1) ∙ sym (ap (λ n. drop (n + 1) xs) (position-some p xs k some))

pub pieces-none : (p : ℕ → Bool) (xs : List ℕ) → IsFirstByte p xs None → slice_split p xs ≡ xs ∷ []
pieces-none p xs none = slice_split_none p xs (λ k d lt. ap p (get_or_default xs k d 0 lt) ∙
    false_from_ne_true (p (get_or xs k 0)) (none k (omega arith) lt))

pub pieces-some : (p : ℕ → Bool) (xs : List ℕ) (k : ℕ) → IsFirstByte p xs (Some k) →
    slice_split p xs ≡ take k xs ∷ slice_split p (take (length xs - (k + 1)) (drop (k + 1) xs))
pieces-some p xs k some = grind (arith, position-some, before_first-some, after_first-some, slice_split_first)

length-each_trimmed : (xs : List (List ℕ)) → length (each_trimmed xs) ≡ length xs
length-each_trimmed [] = refl
length-each_trimmed (x ∷ xs) = ap (λ n. suc n) (length-each_trimmed xs)

-- a content has a field
pub fields_of-some : (bs : List ℕ) → 1 ≤ length (fields_of bs)
fields_of-some bs = omega (arith, length-each_trimmed (cut_at 59 bs), length-slice_split (λ b. b == 59) bs)
