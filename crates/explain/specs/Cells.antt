-- The cells of a line, as bytes: what each rule changed at a position.
use Rattle.std.specs.Prelude.{Option, ℕ, ◌==◌, Bool, true, false, if◌then◌else◌, List, codes, Some, None}
use Rattle.std.specs.Fmt.{decimal}
use Rattle.units.specs.ClassNames.{short_name}
use Rattle.units.specs.declared.class.Class.{Class as BidiClass}
use Rattle.paragraph.specs.ClassSets.{is_class}
use Rattle.printing.specs.LevelsText.{code_text}
use Rattle.explain.specs.declared.cell.Cell.{Cell}
use Rattle.explain.specs.declared.cell.Cell.TheVariants.{Same, Removed, Class, Level}

-- a code point, or - if the character is not known
abbrev pub code_cell : Option ℕ → List ℕ
code_cell None = codes "-"
code_cell (Some character) = code_text character

-- . if a rule changes nothing, x if the position is removed, and otherwise the class or the level after the rule
abbrev pub cell_text : Cell → List ℕ
cell_text Same = codes "."
cell_text Removed = codes "x"
cell_text (Class class) = short_name class
cell_text (Level level) = decimal level

-- X1 to X9: the level of a position, or that it was removed
abbrev pub explicit_cell : Option ℕ → Cell
explicit_cell None = Removed
explicit_cell (Some level) = Level level

-- a rule that changes classes, at a position that remains or not; no rule changes a removed position (X9)
abbrev pub class_cell : Bool → BidiClass → BidiClass → Cell
class_cell false before after = Same
class_cell true before after = if is_class before after then Same else Class after

-- a rule that changes levels; a removed position has none
abbrev pub level_cell : Option ℕ → Option ℕ → Cell
level_cell None after = Same
level_cell (Some before) None = Same
level_cell (Some before) (Some after) = if before == after then Same else Level after
