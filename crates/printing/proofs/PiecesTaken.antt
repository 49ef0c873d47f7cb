-- A part of a list, and what follows it.
use Rattle.std.proofs.Common.{◌≡◌, ℕ, ◌+◌, ◌-◌, ◌≤◌, List, ◌++◌, take, drop, sym, ap, ◌∙◌, arith}
use Rattle.std.proofs.Math.Seq.{take-add}
use Rattle.std.proofs.lemmas.List.{drop-drop}

-- the part from a to b, and after it the part from b to c
pub parts_joined : (a b c : ℕ) (xs : List ℕ) → a ≤ b → b ≤ c →
    take (b - a) (drop a xs) ++ take (c - b) (drop b xs) ≡ take (c - a) (drop a xs)
parts_joined a b c xs f g =
    let to : b - a + (c - b) ≡ c - a = omega arith in
    let from : a + (b - a) ≡ b = omega arith in
    let rest : drop (b - a) (drop a xs) ≡ drop b xs = drop-drop _ _ xs ∙ ap (λ k. drop k xs) from in
    ap (λ ys. take (b - a) (drop a xs) ++ take (c - b) ys) (sym rest) ∙ sym (take-add (b - a) (c - b) (drop a xs)) ∙
    ap (λ k. take k (drop a xs)) to
