-- The levels computed rule by rule are the resolved levels.
use Rattle.std.specs.Prelude.{◌≡◌, List}
use Rattle.units.specs.Classes.{classes_of}
use Rattle.units.specs.Isolates.{para_level_of}
use Rattle.units.specs.Layout.{resolved_levels}
use Rattle.units.specs.Limits.{standard}
use Rattle.units.specs.declared.bracket.Unit.{Unit as BidiUnit}
use Rattle.units.specs.declared.level.Direction.{Direction}
use Rattle.rule_columns.specs.Columns.{columns_of}

-- W1 to I2: the levels after I1 and I2, rule by rule, are the resolved levels of the paragraph
abbrev pub LastAreResolved : List BidiUnit → Direction → Type 0
LastAreResolved us direction =
    (columns_of us direction).implicit ≡ resolved_levels standard us (para_level_of (classes_of us) direction)
