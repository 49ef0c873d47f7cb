-- The level of the paragraph that contains a position.
use Rattle.std.specs.Prelude.{ℕ, ◌≡◌, List}
use Rattle.units.specs.Classes.{classes_of}
use Rattle.units.specs.Isolates.{level_of_para}
use Rattle.units.specs.Layout.{para_levels_of}
use Rattle.units.specs.Limits.{LimitsOf}
use Rattle.units.specs.Reordering.{para_level_at}
use Rattle.units.specs.declared.bracket.Unit.{Unit as BidiUnit}
use Rattle.units.specs.declared.level.Direction.{Direction}
use Rattle.units.specs.declared.level.ParaLevel.{ParaLevel}
use Rattle.lines.specs.Scratches.{HoldsSomeLayoutOf, HoldsText}
use Rattle.lines.specs.declared.scratch.Scratch.{Scratch}

-- it contains some text
abbrev pub HoldsSomeText : Scratch → Type 0
HoldsSomeText scratch = (text : List BidiUnit) × HoldsSomeLayoutOf text scratch

-- P2, P3: under the direction, the paragraph that contains the position has this level
abbrev pub HasParaLevelAt : List BidiUnit → Direction → ℕ → ParaLevel → Type 0
HasParaLevelAt text direction position level =
    level_of_para level ≡ para_level_at (classes_of text) (para_levels_of text direction) position

-- P2, P3: in the text that the scratch contains, the paragraph of the position has this level
abbrev pub IsParaLevelAt : ℕ → Scratch → ParaLevel → Type 0
IsParaLevelAt position scratch level =
    (limits : LimitsOf) (text : List BidiUnit) (direction : Direction)
    → HoldsText limits text direction scratch → HasParaLevelAt text direction position level
