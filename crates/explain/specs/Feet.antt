-- The foot of a paragraph: its isolating run sequences, its bracket pairs, and its order, as bytes.
use Rattle.std.specs.Prelude.{ℕ, ◌+◌, List, [], ◌∷◌, ◌++◌, codes}
use Rattle.std.specs.List.{concat, flat_map}
use Rattle.std.specs.Fmt.{decimal}
use Rattle.units.specs.ClassNames.{short_name}
use Rattle.units.specs.Runs.{SequenceView}
use Rattle.printing.specs.LevelsText.{line_feed}

-- a position in a list
abbrev pub listed_text : ℕ → List ℕ
listed_text p = codes " " ++ decimal p

-- positions of a paragraph that begins at start, as positions of the text
abbrev pub positions_text : ℕ → List ℕ → List ℕ
positions_text start ps = flat_map (λ p. listed_text (start + p)) ps

-- X10: a sequence's number, counted from 0, its level, its sos and eos
abbrev pub sequence_start_text : ℕ → SequenceView → List ℕ
sequence_start_text number s =
    concat (codes "sequence " ∷ decimal number ∷ codes " level " ∷ decimal s.level ∷ codes " sos " ∷ short_name s.sos ∷
    codes " eos " ∷ short_name s.eos ∷ codes ":" ∷ [])

-- the line of a sequence of a paragraph that begins at start
abbrev pub sequence_text : ℕ → ℕ → SequenceView → List ℕ
sequence_text number start s = sequence_start_text number s ++ positions_text start s.positions ++ line_feed

-- BD16: the line of a bracket pair, its opener and its closer
abbrev pub pair_text : ℕ → ℕ → List ℕ
pair_text opener closer = concat (codes "pair " ∷ decimal opener ∷ codes " " ∷ decimal closer ∷ line_feed ∷ [])

-- L2: the line of the order of a paragraph that begins at start, from left to right
abbrev pub order_text : ℕ → List ℕ → List ℕ
order_text start order = codes "order" ++ positions_text start order ++ line_feed
