-- A test that no element of a list passes.
use Rattle.std.specs.Prelude.{Bool, false, ◌≡◌, List}
use Rattle.std.specs.List.{All, list_any}
use Rattle.std.proofs.Common.{arith}
use Rattle.std.proofs.lemmas.List.Folds.{list_any_at}

-- a test that nothing passes
pub none_passes : {A : Type 0} (test : A → Bool) (xs : List A) → list_any test xs ≡ false → All (λ x. test x ≡ false) xs
none_passes test xs none = grind (arith, list_any_at)
