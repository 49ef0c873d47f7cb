-- What a caller asks for, as lists.
use Rattle.std.specs.Prelude.{ℕ, List}
use Rattle.units.specs.Limits.{LimitsOf}
use Rattle.units.specs.declared.level.Direction.{Direction}
use Rattle.sources.specs.Sources.{SourceOf}

-- a text, the direction of its paragraphs, where new lines begin in its units, and the limits of its layout
pub record AskOf : Type 0 where
  pub source : SourceOf
  pub direction : Direction
  pub breaks : List ℕ
  pub limits : LimitsOf
