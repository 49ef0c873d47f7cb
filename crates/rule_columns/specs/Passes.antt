-- The result of one rule for the classes of a paragraph, over all of its sequences.
use Rattle.std.specs.Prelude.{Option, ℕ, if◌then◌else◌, List, map, slice_index, unwrap_or}
use Rattle.std.specs.List.{flat_map, zip}
use Rattle.units.specs.Brackets.{bracket_pairs_of, closer_of}
use Rattle.units.specs.Classes.{class_at, classes_at, is_neutral}
use Rattle.units.specs.Implicit.{implicit_level}
use Rattle.units.specs.Layout.{after_brackets, brackets_of, value_beside}
use Rattle.units.specs.Limits.{standard}
use Rattle.units.specs.Neutral.{by_sides}
use Rattle.units.specs.Positions.{positions_of}
use Rattle.units.specs.Runs.{SequenceView, direction_of}
use Rattle.units.specs.Weak.{after_w1, after_w2, after_w3, after_w4, after_w5, after_w6, after_w7, at_each, class_by_run}
use Rattle.units.specs.declared.bracket.Unit.{Unit as BidiUnit}
use Rattle.units.specs.declared.class.Class.{Class}
use Rattle.rule_columns.specs.declared.pass.Pass.{Pass}
use Rattle.rule_columns.specs.declared.pass.Pass.TheVariants.{W1, W2, W3, W4, W5, W6, W7, N1, N2}

-- N1: the class at k; a neutral takes the direction of both sides if they agree, and else keeps its class
abbrev pub after_n1 : Class → Class → List Class → List Class
after_n1 sos eos cs = at_each (λ k. class_by_run is_neutral (by_sides (class_at cs k)) sos eos cs k) cs

-- N2: a remaining neutral takes the embedding direction
abbrev pub by_n2 : Class → Class → Class
by_n2 embedding c = if is_neutral c then embedding else c

-- N2 at each index
abbrev pub after_n2 : Class → List Class → List Class
after_n2 embedding cs = map (by_n2 embedding) cs

-- the classes of a sequence after a rule that reads only its classes
abbrev pub by_pass : Pass → SequenceView → List Class → List Class
by_pass W1 s = after_w1 s.sos
by_pass W2 s = after_w2 s.sos
by_pass W3 s = after_w3
by_pass W4 s = after_w4
by_pass W5 s = after_w5
by_pass W6 s = after_w6
by_pass W7 s = after_w7 s.sos
by_pass N1 s = after_n1 s.sos s.eos
by_pass N2 s = after_n2 (direction_of s.level)

-- N0: the classes of a sequence after it, from the units of its paragraph and their classes before W1
abbrev pub by_n0 : List BidiUnit → List Class → SequenceView → List Class → List Class
by_n0 us before s weak = after_brackets standard.brackets s us (classes_at before s.positions) weak

-- the positions of a sequence, each with the class after a rule
abbrev pub classes_in : (SequenceView → List Class → List Class) → List Class → SequenceView → List (ℕ × Class)
classes_in rule cs s = zip s.positions (rule s (classes_at cs s.positions))

-- the class at p after a rule: the one that the rule gives if a sequence has p, and else the class before the rule
abbrev pub rewritten_at : (SequenceView → List Class → List Class) → List SequenceView → List Class → ℕ → Class
rewritten_at rule all cs p = unwrap_or (value_beside (flat_map (classes_in rule cs) all) p) (class_at cs p)

-- the classes of a paragraph after a rule, from its sequences
unfoldable pub rewritten : (SequenceView → List Class → List Class) → List SequenceView → List Class → List Class
rewritten rule all cs = map (rewritten_at rule all cs) (positions_of cs)

-- I1, I2: the positions of a sequence with their resolved levels, from the classes after N2
abbrev pub implicit_in : List Class → SequenceView → List (ℕ × ℕ)
implicit_in cs s = zip s.positions (map (implicit_level s.level) (classes_at cs s.positions))

-- I1, I2: the level of each position, or none if no sequence has it
unfoldable pub implicit_of : List SequenceView → List Class → List (Option ℕ)
implicit_of all cs = map (value_beside (flat_map (implicit_in cs) all)) (positions_of cs)

-- BD16: the bracket pairs of a sequence that count, as positions of the paragraph, from its classes after W7
abbrev pub pairs_in : List BidiUnit → List Class → SequenceView → List (ℕ × ℕ)
pairs_in us weak s =
    map (λ pair. (slice_index s.positions pair.0, slice_index s.positions pair.1))
    (bracket_pairs_of standard.brackets (brackets_of s us (classes_at weak s.positions)))

-- BD16: for each position that of the closing bracket of the pair that begins there, if one does
unfoldable pub closers_of : List SequenceView → List BidiUnit → List Class → List (Option ℕ)
closers_of all us weak = map (closer_of (flat_map (pairs_in us weak) all)) (positions_of us)
