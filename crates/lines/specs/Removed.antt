-- X9: the positions of a layout that have no level.
use Rattle.std.specs.Prelude.{ℕ, List}
use Rattle.paragraph.specs.Removed.{AreNoneWhereRemoved}
use Rattle.units.specs.Layout.{layout_of}
use Rattle.units.specs.Limits.{LimitsOf}
use Rattle.units.specs.declared.bracket.Unit.{Unit as BidiUnit}
use Rattle.units.specs.declared.level.Direction.{Direction}

-- under each direction and with any breaks, a position of the text has no level in the layout exactly if it is removed
abbrev pub RemovedHaveNoLevel : LimitsOf → List BidiUnit → Type 0
RemovedHaveNoLevel limits text =
    (direction : Direction) (breaks : List ℕ) → AreNoneWhereRemoved text (layout_of limits text direction breaks).levels
