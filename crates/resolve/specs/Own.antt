-- Which positions have their own classes after X1 to X8.
use Rattle.std.specs.Prelude.{ℕ, true, false, List, ◌≡◌}
use Rattle.units.specs.Classes.{class_at, is_nonspacing}
use Rattle.units.specs.Layout.{current_at}
use Rattle.units.specs.declared.class.Class.{Class}
use Rattle.resolve.specs.Wanted.{is_imposed}

-- X1 to X9: the class is the position's own, unless it is one that replaces own classes
abbrev pub IsOwnUnlessImposed : Class → Class → Type 0
IsOwnUnlessImposed own class = is_imposed class ≡ false → class ≡ own

-- X1 to X8: if p is a mark, its own class is that of a mark
abbrev pub IsOwnMark : ℕ → List Class → ℕ → ℕ → Type 0
IsOwnMark depth cs para_level p =
    is_nonspacing (current_at depth cs para_level p) ≡ true → is_nonspacing (class_at cs p) ≡ true
