-- The line of a position, as bytes: what each rule changed there.
use Rattle.std.specs.Prelude.{Option, is_some, ℕ, ◌-◌, Bool, List, [], ◌∷◌, ◌++◌, codes, length}
use Rattle.std.specs.List.{concat}
use Rattle.std.specs.Fmt.{decimal}
use Rattle.units.specs.ClassNames.{short_name}
use Rattle.units.specs.Classes.{class_at}
use Rattle.units.specs.declared.class.Class.{Class}
use Rattle.printing.specs.LevelsText.{line_feed, printed}
use Rattle.explain.specs.Cells.{code_cell, cell_text, explicit_cell, class_cell, level_cell}
use Rattle.explain.specs.declared.position.PositionLevels.{PositionLevels}

-- the position, its code point, its original class, its level after X1 to X9
abbrev pub position_start_text : ℕ → Option ℕ → Class → Option ℕ → List ℕ
position_start_text p character own level =
    concat (decimal p ∷ codes " " ∷ code_cell character ∷ codes " " ∷ short_name own ∷ codes " " ∷
    cell_text (explicit_cell level) ∷ [])

-- what the rule with the number k, counted from 1, changed in the class
abbrev pub change_text : Bool → List Class → ℕ → List ℕ
change_text remains classes k =
    codes " " ++ cell_text (class_cell remains (class_at classes (k - 1)) (class_at classes k))

-- what the rules changed in the class, one after another; the first class is the original one
abbrev pub changes_text : Bool → List Class → List ℕ
changes_text remains classes = printed (change_text remains classes) 1 (length classes)

-- what I1, I2 and L1 changed in the level
abbrev pub position_end_text : PositionLevels → List ℕ
position_end_text levels =
    concat (codes " " ∷ cell_text (level_cell levels.explicit levels.implicit) ∷ codes " " ∷
    cell_text (level_cell levels.implicit levels.line) ∷ line_feed ∷ [])

-- the line of a position, from its original class and its class after each rule
abbrev pub position_text : ℕ → Option ℕ → List Class → PositionLevels → List ℕ
position_text p character classes levels =
    position_start_text p character (class_at classes 0) levels.explicit
    ++ changes_text (is_some levels.explicit) classes ++ position_end_text levels
