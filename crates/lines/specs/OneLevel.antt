-- Texts whose positions all have one level.
use Rattle.std.specs.Prelude.{ℕ, ◌≡◌, ◌<◌, Bool, true, Option, Some, List, length, replicate, slice_index_or}
use Rattle.std.specs.Box.{boxed_slice_items}
use Rattle.units.specs.Isolates.{level_of_para}
use Rattle.units.specs.declared.level.ParaLevel.TheVariants.{Zero}
use Rattle.lines.specs.Columns.{levels_filled}
use Rattle.lines.specs.declared.columns.TextColumns.{TextColumns}

-- X9: no position was removed, and each has this level
abbrev pub AllHaveLevel : ℕ → List (Option ℕ) → Type 0
AllHaveLevel level levels = levels ≡ replicate (length levels) (Some level)

-- each position of the text has the level of its first paragraph, and L1 changes none
pub record HasOneLevel (units paragraphs : ℕ) (known : Bool) (columns : TextColumns) : Type 0 where
  pub some : 0 < paragraphs
  pub uniform : known ≡ true
  pub levels : AllHaveLevel (level_of_para (slice_index_or (boxed_slice_items columns.paras) 0 Zero))
      (levels_filled units columns)
