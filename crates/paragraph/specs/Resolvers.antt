-- The resolution of paragraphs: its buffers, and the known properties of a resolved paragraph or of one unit alone.
use Rattle.std.specs.Prelude.{Option, Some, None, ℕ, ◌+◌, ◌≡◌, Bool, true, List, [], ◌∷◌, slice_index_or}
use Rattle.std.specs.Int.{div_ceil}
use Rattle.units.specs.Classes.{classes_of}
use Rattle.units.specs.Isolates.{level_of_para, para_level_of}
use Rattle.units.specs.Layout.{resolved_levels}
use Rattle.units.specs.Limits.{LimitsOf}
use Rattle.units.specs.Runs.{SequenceView}
use Rattle.units.specs.declared.bracket.Unit.{Unit as BidiUnit}
use Rattle.units.specs.declared.class.Class.{Class}
use Rattle.units.specs.declared.level.Direction.{Direction}
use Rattle.explicit.specs.IsolateMaps.{Isolates}
use Rattle.paragraph.specs.Contents.{keeps_level}
use Rattle.paragraph.specs.declared.one_unit.RemainingUnit.{RemainingUnit}
use Rattle.paragraph.specs.declared.resolver.Resolved.{Resolved}

-- the capacity in positions, and the results for the last paragraph (BD9, X1 to X10)
pub record Results : Type 0 where
  pub room : ℕ
  pub isolates : Isolates
  pub explicit : List (Option (ℕ × Class))
  pub sequences : List SequenceView

-- the capacity in positions, and the classes before W1 with the copy of them to work on
pub record Work : Type 0 where
  pub room : ℕ
  pub before : List Class
  pub classes : List Class

-- the length of the column for the few units of paragraphs of up to n positions, of which the last may be all that
-- follow a position, and for the positions at which the others begin: one in six positions at most
abbrev pub few_room : ℕ → ℕ
few_room n = n + div_ceil n 6

-- each position that has a level has this one
abbrev pub StaysAt : ℕ → List (Option ℕ) → Type 0
StaysAt level levels = (p v : ℕ) → slice_index_or levels p None ≡ Some v → v ≡ level

-- P2 to I2: these are the known properties of the paragraph, and its levels
pub record IsResolved (limits : LimitsOf) (us : List BidiUnit) (direction : Direction) (para : Resolved)
    (column : List (Option ℕ)) : Type 0 where
  pub level : level_of_para para.level ≡ para_level_of (classes_of us) direction
  pub levels : column ≡ resolved_levels limits us (para_level_of (classes_of us) direction)
  pub known : para.uniform ≡ keeps_level (level_of_para para.level) (classes_of us)
  pub uniform : para.uniform ≡ true → StaysAt (level_of_para para.level) column

-- X1 to I2: the unit alone keeps its paragraph's level
abbrev pub keeps_unit : Direction → BidiUnit → Bool
keeps_unit direction unit = keeps_level (para_level_of (unit.class ∷ []) direction) (unit.class ∷ [])

-- P2 to I2: it does so, and these are the paragraph's level and the unit's resolved one, whatever the limits are
pub record IsRemainingUnit (direction : Direction) (unit : BidiUnit) (unchanged : RemainingUnit) : Type 0 where
  pub keeps : keeps_unit direction unit ≡ true
  pub para : level_of_para unchanged.para ≡ para_level_of (unit.class ∷ []) direction
  pub levels : (limits : LimitsOf) →
      unchanged.level ∷ [] ≡ resolved_levels limits (unit ∷ []) (para_level_of (unit.class ∷ []) direction)
