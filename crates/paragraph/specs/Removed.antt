-- X9: which positions have no level.
use Rattle.std.specs.Prelude.{Option, None, ℕ, ◌≡◌, ◌<◌, ◌≤◌, List, is_none, length, slice_index_or}
use Rattle.units.specs.Classes.{class_at, classes_of, is_removed}
use Rattle.units.specs.Layout.{resolved_levels}
use Rattle.units.specs.Limits.{LimitsOf}
use Rattle.units.specs.declared.bracket.Unit.{Unit as BidiUnit}

-- these levels of a text are none at the positions that are removed, and at no others
abbrev pub AreNoneWhereRemoved : List BidiUnit → List (Option ℕ) → Type 0
AreNoneWhereRemoved us levels =
    (p : ℕ) → p < length us → is_none (slice_index_or levels p None) ≡ is_removed (class_at (classes_of us) p)

-- whatever the paragraph's level is, its removed positions and no others have no resolved level
abbrev pub RemovedHaveNoResolvedLevel : LimitsOf → List BidiUnit → Type 0
RemovedHaveNoResolvedLevel limits us =
    (para_level : ℕ) → para_level ≤ 1 → AreNoneWhereRemoved us (resolved_levels limits us para_level)
