-- The contents of a scratch after a text was laid out.
use Rattle.std.specs.Prelude.{◌≡◌, List, []}
use Rattle.units.specs.Layout.{layout_of}
use Rattle.units.specs.Limits.{LimitsOf}
use Rattle.units.specs.declared.bracket.Unit.{Unit as BidiUnit}
use Rattle.units.specs.declared.level.Direction.{Direction}
use Rattle.lines.specs.Scratches.{IsFilled, layout_in}
use Rattle.lines.specs.declared.scratch.Scratch.{Scratch}

-- the scratch has the layout of the text under a direction, with these limits and without breaks
pub record IsLaidOut (limits : LimitsOf) (text : List BidiUnit) (scratch : Scratch) (direction : Direction) :
    Type 0 where
  pub filled : IsFilled scratch
  pub layout : layout_in scratch ≡ layout_of limits text direction []
