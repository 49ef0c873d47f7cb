-- Statements about matched isolates and the stack.
use Rattle.std.specs.Prelude.{ℕ, ◌+◌, ◌≤◌, ◌≡◌, List, length, IfSome}
use Rattle.units.specs.Explicit.{explicit_at, explicit_level_at}
use Rattle.units.specs.declared.class.Class.{Class}
use Rattle.explicit.specs.StatusStacks.{Represents, entries_of, entry_count}
use Rattle.explicit.specs.declared.status.StatusStack.{StatusStack}

-- X1 to X8: two positions have one explicit level, or neither has one
abbrev pub HaveOneLevel : ℕ → List Class → ℕ → ℕ → ℕ → Type 0
HaveOneLevel depth cs para_level i j = explicit_level_at depth cs para_level i ≡ explicit_level_at depth cs para_level j

-- X1: a stack that represents open initiators has at most depth + 1 entries, whichever initiators these are
abbrev pub StacksAreShallow : ℕ → List Class → ℕ → Type 0
StacksAreShallow depth cs para_level =
    (qs : List ℕ) (stack : StatusStack) → Represents depth cs para_level qs stack → entry_count stack ≤ depth + 1

-- X1: for these initiators the stack has at most depth + 1 entries
abbrev pub EntriesAreFew : ℕ → List Class → ℕ → List ℕ → Type 0
EntriesAreFew depth cs para_level qs = length (entries_of depth cs para_level qs) ≤ depth + 1

-- BD2: an explicit level of the position, if it has one, is not above the depth
abbrev pub HasNoLevelAboveDepth : ℕ → List Class → ℕ → ℕ → Type 0
HasNoLevelAboveDepth depth cs para_level p = IfSome (explicit_at depth cs para_level p) (λ leveled. leveled.0 ≤ depth)
