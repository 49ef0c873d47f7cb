-- What a paragraph lacks if a rule has nothing to do.
use Rattle.std.specs.Prelude.{Bool, ◌≡◌, false, List}
use Rattle.std.specs.List.{All}
use Rattle.units.specs.Brackets.{is_open}
use Rattle.units.specs.declared.class.Class.{Class}
use Rattle.units.specs.declared.bracket.Unit.{Unit as BidiUnit}

-- none of the classes passes the test
abbrev pub HasNone : (Class → Bool) → List Class → Type 0
HasNone test cs = All (λ c. test c ≡ false) cs

-- none of the units is an opening bracket
abbrev pub HasNoOpening : List BidiUnit → Type 0
HasNoOpening us = All (λ unit. is_open unit.bracket ≡ false) us
