-- Statements about paragraphs in which most rules have nothing to do.
use Rattle.std.specs.Prelude.{ℕ, ◌≡◌, true, List, map}
use Rattle.std.specs.List.{All}
use Rattle.units.specs.Classes.{classes_of}
use Rattle.units.specs.Layout.{after_brackets, levels_of_sequence, resolved_levels}
use Rattle.units.specs.Limits.{LimitsOf}
use Rattle.units.specs.Runs.{SequenceView, direction_of, leveled_of, sequences_of}
use Rattle.units.specs.declared.bracket.Unit.{Unit as BidiUnit}
use Rattle.units.specs.declared.class.Class.{Class}
use Rattle.explicit.specs.Flat.{IsFlat, flat_resolved_levels, flat_sequences}
use Rattle.explicit.specs.IdleRules.{HasNone}
use Rattle.explicit.specs.Uniform.{level_unless_removed_at, may_rise, stays_at}

-- N0 changes nothing in the sequence, whatever the classes before W1 and after W7 are
abbrev pub HasIdleBrackets : ℕ → SequenceView → List BidiUnit → Type 0
HasIdleBrackets most_open s us = (before weak : List Class) → after_brackets most_open s us before weak ≡ weak

-- W1 to I2: at this level the paragraph's resolved levels are those of its one sequence
abbrev pub ResolvesAsOne : LimitsOf → List BidiUnit → ℕ → Type 0
ResolvesAsOne limits us para_level = resolved_levels limits us para_level ≡ flat_resolved_levels limits us para_level

-- X1 to I2: each position of the paragraph that remains has this level
abbrev pub KeepsItsLevel : LimitsOf → List BidiUnit → ℕ → Type 0
KeepsItsLevel limits us para_level =
    resolved_levels limits us para_level ≡ map (λ unit. level_unless_removed_at para_level unit.class) us

-- X1 to X10: at this depth and level the paragraph has one sequence, of all positions that remain
abbrev pub HasOneSequence : ℕ → List Class → ℕ → Type 0
HasOneSequence depth cs para_level = sequences_of (leveled_of depth cs para_level) ≡ flat_sequences para_level cs

-- nothing in the paragraph begins an embedding or an isolate, and no class in it can rise above this level
abbrev pub IsUniform : List BidiUnit → ℕ → Type 0
IsUniform us para_level = IsFlat (classes_of us) × HasNone (may_rise para_level) (classes_of us)

-- X10: the sequence begins in the direction of its level, and none of its classes before W1 can rise above this level
abbrev pub IsUniformSequence : SequenceView → List Class → Type 0
IsUniformSequence s before = (s.sos ≡ direction_of s.level) × All (λ c. stays_at s.level c ≡ true) before

-- W1 to I2: each position of the sequence has the level of the sequence
abbrev pub SequenceKeepsItsLevel : ℕ → SequenceView → List BidiUnit → List Class → Type 0
SequenceKeepsItsLevel most_open s us before = levels_of_sequence most_open s us before ≡ map (λ _. s.level) before
