-- The paragraphs of a text that have ended, whatever comes after it.
use Rattle.std.specs.Prelude.{ℕ, Bool, if◌then◌else◌, List, [], ◌∷◌}
use Rattle.std.specs.List.{list_any}
use Rattle.units.specs.Classes.{is_separator}
use Rattle.ucdfiles.specs.Tables.{TablesOf, unit_by}

-- the tables say that a character is a paragraph separator
abbrev pub separates : TablesOf → ℕ → Bool
separates tables c = is_separator (unit_by tables c).class

-- the characters up to the last that is a separator
abbrev pub up_to_separator : (ℕ → Bool) → List ℕ → List ℕ
up_to_separator separates [] = []
up_to_separator separates (c ∷ cs) = if list_any separates (c ∷ cs) then c ∷ up_to_separator separates cs else []

-- P1: the paragraphs of a text that have ended, one after another: each separator ends one and belongs to it
abbrev pub ended_paragraphs : TablesOf → List ℕ → List ℕ
ended_paragraphs tables chars = up_to_separator (separates tables) chars
