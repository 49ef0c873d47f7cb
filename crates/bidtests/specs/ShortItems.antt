-- The item that bytes begin with.
use Rattle.std.specs.Prelude.{◌≡◌, ◌<◌, ◌≤◌, ℕ, Option, Some, None, false, List, ◌++◌, length, take, get_or, ◌⊎◌}
use Rattle.std.specs.List.{All}
use Rattle.units.specs.Text.{is_blank}

-- the item that the bytes begin with has this length and is read as this value; a space or the end is after it
pub record IsFirstItem {A : Type 0} (reading : List ℕ → Option A) (bytes : List ℕ) (value : A)
    (count : ℕ) : Type 0 where
  pub some : 0 < count
  pub inside : count ≤ length bytes
  pub full : All (λ b. is_blank b ≡ false) (take count bytes)
  pub end : (count ≡ length bytes) ⊎ (get_or bytes count 0 ≡ 32)
  pub read : reading (take count bytes) ≡ Some value

-- these items, and then what is read
abbrev pub read_after : {A : Type 0} → List A → Option (List A) → Option (List A)
read_after xs None = None
read_after xs (Some ys) = Some (xs ++ ys)
