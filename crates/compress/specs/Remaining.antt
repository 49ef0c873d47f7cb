-- A flat paragraph by the units that remain in it (X9).
use Rattle.std.specs.Prelude.{Option, Some, None, ℕ, Bool, List, [], ◌∷◌, filter, if◌then◌else◌}
use Rattle.units.specs.declared.bracket.Unit.{Unit as BidiUnit}
use Rattle.units.specs.Runs.{SequenceView}
use Rattle.explicit.specs.Flat.{is_remaining, level_sequence}

-- X9: the unit remains
abbrev pub stays : BidiUnit → Bool
stays u = is_remaining u.class

-- X9: the units that remain
abbrev pub remaining_units : List BidiUnit → List BidiUnit
remaining_units us = filter stays us

abbrev pub first_of : List ℕ → Option ℕ
first_of [] = None
first_of (l ∷ ls) = Some l

abbrev pub later_of : List ℕ → List ℕ
later_of [] = []
later_of (l ∷ ls) = ls

-- these levels, in turn, for the units that remain, and none for the others
abbrev pub by_remaining : List BidiUnit → List ℕ → List (Option ℕ)
by_remaining [] ls = []
by_remaining (u ∷ us) ls = if stays u then first_of ls ∷ by_remaining us (later_of ls) else None ∷ by_remaining us ls

-- the sequence of a flat paragraph at this level, whatever its positions are
abbrev pub at_level : ℕ → SequenceView
at_level para_level = level_sequence para_level 0 []
