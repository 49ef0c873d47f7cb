-- Where an index of joined lists falls.
use Rattle.std.proofs.Common.{◌≡◌, ℕ, zero, suc, ◌+◌, ◌-◌, ◌<◌, ◌≤◌, Some, List, [], ◌∷◌, ◌++◌, length, drop, get_or, drop-cons, add-one, flat_map, refl, ap, ◌∙◌, arith, length-append}
use Rattle.std.specs.List.{slice_get}
use Rattle.std.proofs.lemmas.List.{get_or_append_left}
use Rattle.std.proofs.lemmas.Option.{slice_get-get_or}
use Rattle.units.specs.Layout.{LineLayout}

-- within the first list
pub joined-within : (xs ys : List ℕ) (i d : ℕ) → i < length xs → slice_get (xs ++ ys) i ≡ Some (get_or xs i d)
joined-within xs ys i d lt = slice_get-get_or (xs ++ ys) i d (omega (arith, length-append xs ys)) ∙
    ap (λ x. Some x) (get_or_append_left xs ys d i lt)

-- after the first list
pub joined-following : (xs ys : List ℕ) (i : ℕ) → length xs ≤ i → slice_get (xs ++ ys) i ≡ slice_get ys (i - length xs)
joined-following [] ys i le = ap (λ n. slice_get ys n) (omega arith)
joined-following (x ∷ xs) ys zero le = absurd (omega arith)
joined-following (x ∷ xs) ys (suc i) le = joined-following xs ys i (omega arith) ∙
    ap (λ n. slice_get ys n) (omega arith)

-- the orders of the lines from this one on
pub orders-from : (lines : List LineLayout) (k : ℕ) (none : LineLayout) → k < length lines
    → flat_map (λ (l : LineLayout). l.order) (drop k lines) ≡ (get_or lines k none).order ++
    flat_map (λ (l : LineLayout). l.order) (drop (k + 1) lines)
orders-from lines k none lt = rw (add-one, drop-cons lines k none lt) refl
