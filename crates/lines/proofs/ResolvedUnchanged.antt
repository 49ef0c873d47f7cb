-- The resolved levels of a text, stored for the next breaks.
use Rattle.std.specs.Prelude.{ℕ, ◌≡◌, Bool, true, false, if◌then◌else◌, IsTrue, Option, List, take, refl}

-- the resolved levels are unchanged, if the levels of a uniform text are
pub resolved_stay : (uniform : Bool) (n : ℕ) (resolved before after : List (Option ℕ)) →
    (IsTrue uniform → take n after ≡ take n before) →
    take n (if uniform then after else resolved) ≡ take n (if uniform then before else resolved)
resolved_stay true n resolved before after same = same refl
resolved_stay false n resolved before after same = refl
