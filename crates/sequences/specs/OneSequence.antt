-- How the one sequence of a paragraph without initiators is stored.
use Rattle.std.specs.Prelude.{Option, ℕ, List, length}
use Rattle.units.specs.Classes.{classes_of}
use Rattle.units.specs.Runs.{leveled_of, sequences_of}
use Rattle.units.specs.declared.bracket.Unit.{Unit as BidiUnit}
use Rattle.sequences.specs.declared.heads.Head.{Head}
use Rattle.sequences.specs.Heads.{HoldSequences}

-- the columns contain the sequences of these units at this level, the same at every depth
abbrev pub HoldSequencesOf : List BidiUnit → ℕ → ℕ → List (Option ℕ) → List Head → List ℕ → Type 0
HoldSequencesOf us para_level count links heads column =
    (depth : ℕ) → HoldSequences (sequences_of (leveled_of depth (classes_of us) para_level))
    (length us) count links heads column
