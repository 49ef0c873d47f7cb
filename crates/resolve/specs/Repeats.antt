-- Classes that a run repeats (W1 to W7), and the class that a run takes.
use Rattle.std.specs.Prelude.{◌||◌, Bool, true, false, ℕ, zero, suc, ◌+◌, ◌<◌, ◌≤◌, ◌≡◌, List, length, set, slice_index}
use Rattle.units.specs.Classes.{class_at}
use Rattle.units.specs.declared.class.Class.{Class}
use Rattle.resolve.specs.ClassSets.{holds, is_neutral_or, is_passed}
use Rattle.resolve.specs.declared.class_set.ClassSet.{ClassSet}
use Rattle.units.specs.declared.class.Class.TheVariants.{L, R, AL, AN, S, WS, ON}

-- letters, Arabic numbers and spaces: W1 to W7 change one as they change the one of its kind before it, whatever comes
-- after it
abbrev pub is_plain : Class → Bool
is_plain L = true
is_plain R = true
is_plain AL = true
is_plain AN = true
is_plain S = true
is_plain WS = true
is_plain ON = true
is_plain _ = false

-- the classes at the positions of the indices from start up to end are of this kind
pub record AreAll (IsSuch : Class → Type 0) (ps : List ℕ) (start end : ℕ) (cs : List Class) : Type 0 where
  pub from_start : start ≤ end
  pub within : end ≤ length ps
  pub each : (k : ℕ) → start ≤ k → k < end → IsSuch (class_at cs (slice_index ps k))

-- the classes are this class
abbrev pub IsRunOf : Class → List ℕ → ℕ → ℕ → List Class → Type 0
IsRunOf class = AreAll (λ c. c ≡ class)

-- the classes are neutral or this direction
abbrev pub AreNeutralOr : Class → List ℕ → ℕ → ℕ → List Class → Type 0
AreNeutralOr direction = AreAll (λ c. is_neutral_or direction c ≡ true)

-- W1 to W7 leave the classes unchanged, and know the same last strong class after each
abbrev pub ArePassed : Class → List ℕ → ℕ → ℕ → List Class → Type 0
ArePassed strong = AreAll (λ c. is_passed strong c ≡ true)

-- the classes aren't in the set
abbrev pub AreWithout : ClassSet → List ℕ → ℕ → ℕ → List Class → Type 0
AreWithout set = AreAll (λ c. holds set c ≡ false)

-- the set contains the class at the position of an index
abbrev pub holds_at : ClassSet → List ℕ → List Class → ℕ → Bool
holds_at set ps cs k = holds set (class_at cs (slice_index ps k))

-- the set contains the class at the position of one of the four indices from k on
abbrev pub holds_one_of_four : ClassSet → List ℕ → ℕ → List Class → Bool
holds_one_of_four set ps k cs =
    ((holds_at set ps cs k || holds_at set ps cs (k + 1)) || holds_at set ps cs (k + 2)) || holds_at set ps cs (k + 3)

-- a list by position, with one value at the positions of n indices, from start on
abbrev pub with_along : {X : Type 0} → List ℕ → ℕ → ℕ → X → List X → List X
with_along ps start zero value xs = xs
with_along ps start (suc n) value xs = set (with_along ps start n value xs) (slice_index ps (start + n)) value
