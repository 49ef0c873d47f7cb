-- Texts in which no position leaves level 0.
use Rattle.std.specs.Prelude.{ℕ, Bool, ◌≡◌, ◌&&◌, not, List}
use Rattle.std.specs.List.{list_all}
use Rattle.units.specs.Classes.{is_initiator}
use Rattle.units.specs.Layout.{layout_of}
use Rattle.units.specs.Limits.{LimitsOf}
use Rattle.units.specs.declared.bracket.Unit.{Unit as BidiUnit}
use Rattle.units.specs.declared.class.Class.{Class}
use Rattle.units.specs.declared.level.Direction.{Direction}
use Rattle.units.specs.declared.level.Direction.TheVariants.{Auto, Ltr}
use Rattle.explicit.specs.Uniform.{may_rise_at_even}
use Rattle.lines.specs.LinePositions.{HasLevel}

-- X1 to I2: at level 0 the class begins nothing, and brings no position above it
abbrev pub stays_at_zero : Class → Bool
stays_at_zero c = not (is_initiator c) && not (may_rise_at_even c)

-- all of these do
abbrev pub all_stay_at_zero : List Class → Bool
all_stay_at_zero cs = list_all stays_at_zero cs

-- P2 to L1: under this direction each level of the text is 0, however it is broken into lines
abbrev pub AreZeroUnder : LimitsOf → List BidiUnit → Direction → Type 0
AreZeroUnder limits text direction =
    (breaks : List ℕ) (p v : ℕ) → HasLevel (layout_of limits text direction breaks).levels p v → v ≡ 0

-- under the directions that can give a paragraph level 0
pub record AreLevelsZero (limits : LimitsOf) (text : List BidiUnit) : Type 0 where
  pub found : AreZeroUnder limits text Auto
  pub asked : AreZeroUnder limits text Ltr
