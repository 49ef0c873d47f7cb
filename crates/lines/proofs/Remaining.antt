-- The remaining positions of a line, rising.
use Rattle.std.proofs.Common.{◌≡◌, ℕ, ◌+◌, ◌-◌, ◌<◌, ◌≤◌, Bool, true, false, cond, Option, None, Some, List, [], ◌∷◌, ◌++◌, length, take, set, zero, suc, refl, sym, ap, ◌∙◌, arith}
use Rattle.std.specs.Prelude.{filter, reverse}
use Rattle.std.specs.Option.{is_some}
use Rattle.std.proofs.lemmas.List.{append-nil, reverse-append, take_more_set, take-set}
use Rattle.std.proofs.lemmas.List.Elements.{filter-append}
use mir.Val.{bool_byte}
use Rattle.units.specs.Positions.{positions_from}
use Rattle.lines.specs.LinePositions.{is_remaining, remaining}
use Rattle.lines.proofs.Turns.{ListsRemaining, Ordered}
use Rattle.units.proofs.Positions.{positions_from-next}

-- a position is written after the first `count` items, and is one more item if the flag is set
pub unchanged : (order : List ℕ) (count count2 position : ℕ) (b : Bool) → count < length order →
    count2 ≡ count + bool_byte b → take count2 (set order count position) ≡ take count order ++
    cond b (position ∷ []) []
unchanged order count count2 position true h e = ap (λ n. take n (set order count position)) e ∙
    take_more_set order count position h
unchanged order count count2 position false h e = grind (arith, take-set, append-nil)

some_level : (o : Option ℕ) → is_some o ≡ true → (v : ℕ) × (o ≡ Some v)
some_level None h = cc
some_level (Some v) h = (v, refl)

no_level : (o : Option ℕ) (v : ℕ) → is_some o ≡ false → o ≡ Some v → ⊥
no_level None v h e = cc
no_level (Some w) v h e = cc

-- rising remaining positions of a line
pub record Rising (levels : List (Option ℕ)) (start end : ℕ) (xs : List ℕ) : Type 0 where
  pub holds : ListsRemaining levels start end xs
  pub ordered : Ordered (λ a b. a < b) xs

rising_more : (levels : List (Option ℕ)) (i end : ℕ) (xs : List ℕ) (b : Bool) → i < end → is_remaining levels i ≡ b →
    Rising levels (i + 1) end xs → Rising levels i end (cond b (i ∷ xs) xs)
rising_more levels i end xs false lt e t = grind (arith, no_level)
rising_more levels i end xs true lt e t = grind (arith, some_level)

rising_from : (levels : List (Option ℕ)) (i count end : ℕ) → i + count ≡ end →
    Rising levels i end (filter (is_remaining levels) (positions_from i count))
rising_from levels i zero end e = grind arith
rising_from levels i (suc count) end e = grind (arith, rising_more, rising_from levels (i + 1) count end)

-- the remaining positions are rising
pub remaining-rising : (levels : List (Option ℕ)) (start end : ℕ) → start ≤ end →
    Rising levels start end (remaining levels start end)
remaining-rising levels start end le = rising_from levels start (end - start) end (omega arith)

-- the remaining positions, with one more at the end
pub remaining-next : (levels : List (Option ℕ)) (start position : ℕ) → start ≤ position →
    remaining levels start (position + 1) ≡ remaining levels start position ++
    cond (is_remaining levels position) (position ∷ []) []
remaining-next levels start position le = grind (arith, positions_from-next, filter-append)

reverse_if : (b : Bool) (x : ℕ) (xs : List ℕ) → reverse (cond b (x ∷ xs) xs) ≡ reverse xs ++ cond b (x ∷ []) []
reverse_if true x xs = reverse-append (x ∷ []) xs
reverse_if false x xs = sym (append-nil (reverse xs))

-- the remaining positions in falling order, with one more position before them
pub remaining-before : (levels : List (Option ℕ)) (position end : ℕ) → position < end →
    reverse (remaining levels position end) ≡ reverse (remaining levels (position + 1) end) ++
    cond (is_remaining levels position) (position ∷ []) []
remaining-before levels position end lt = grind (arith, reverse_if)

-- an empty range has none
pub remaining-none : (levels : List (Option ℕ)) (position : ℕ) → remaining levels position position ≡ []
remaining-none levels position =
    let e : position - position ≡ 0 = omega arith in
    ap (λ n. filter (is_remaining levels) (positions_from position n)) e
