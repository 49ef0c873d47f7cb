-- P1: the end of the first paragraph of a text.
use Rattle.std.specs.Prelude.{zero, suc, ℕ, if◌then◌else◌, List, [], ◌∷◌}
use Rattle.units.specs.Classes.{is_separator}
use Rattle.units.specs.declared.bracket.Unit.{Unit as BidiUnit}

-- P1: how many units the first paragraph has, its separator included
abbrev pub first_length : List BidiUnit → ℕ
first_length [] = zero
first_length (unit ∷ units) = if is_separator unit.class then 1 else suc (first_length units)
