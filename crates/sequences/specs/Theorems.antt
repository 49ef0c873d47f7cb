-- Statements about the sequences of a paragraph (BD13).
use Rattle.std.specs.Prelude.{Some, ℕ, ◌+◌, ◌<◌, ◌≡◌, length, slice_get, slice_index, Contains}
use Rattle.units.specs.Runs.{LeveledView, SequenceView, followed, sequence_from, sequences_of, successor}

-- the sequence with the number j
abbrev pub IsSequenceAt : LeveledView → ℕ → SequenceView → Type 0
IsSequenceAt t j s = slice_get (sequences_of t) j ≡ Some s

-- no position is in both
abbrev pub ShareNoPosition : SequenceView → SequenceView → Type 0
ShareNoPosition s other = (p : ℕ) → Contains s.positions p → Contains other.positions p → ⊥

-- no position is in two sequences
abbrev pub SequencesAreApart : LeveledView → Type 0
SequencesAreApart t =
    (j k : ℕ) (s other : SequenceView) → IsSequenceAt t j s → IsSequenceAt t k other → j < k → ShareNoPosition s other

-- each position is before its successor, and the last one has none
abbrev pub FollowsSuccessors : LeveledView → SequenceView → Type 0
FollowsSuccessors t s =
    (k : ℕ) → k < length s.positions → successor t (slice_index s.positions k) ≡ slice_get s.positions (k + 1)

-- following the successors from p, for at most this many steps, leads to the end of its sequence
abbrev pub FollowedToTheEnd : LeveledView → ℕ → ℕ → Type 0
FollowedToTheEnd t p most = followed (successor t) most (Some p) ≡ sequence_from t p
