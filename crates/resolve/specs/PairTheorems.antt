-- Statements about the bracket pairs of every sequence (BD16), for any number of brackets that can be open.
use Rattle.std.specs.Prelude.{Option, ℕ, zero, suc, ◌≡◌, ◌<◌, ◌≤◌, ◌+◌, ◌-◌, ◌*◌, ◌⊎◌, Bool, ◌&&◌, nat_lt, List, length, Some, None}
use Rattle.std.specs.List.{count_by, sum_by}
use Rattle.units.specs.Brackets.{is_open, bracket_at, stop_of, bracket_pairs_of, closer_of}
use Rattle.units.specs.Positions.{first_from}
use Rattle.units.specs.declared.bracket.Bracket.{Bracket}

-- BD16: o and c are the brackets of a pair
abbrev pub IsPair : ℕ → List Bracket → ℕ → ℕ → Type 0
IsPair most_open bs o c = closer_of (bracket_pairs_of most_open bs) o ≡ Some c

-- BD16: a closer is after its opener, within the sequence
abbrev pub PairsAreOrdered : ℕ → List Bracket → Type 0
PairsAreOrdered most_open bs = (o c : ℕ) → IsPair most_open bs o c → (o < c) × (c < length bs)

-- BD16: the later of two pairs ends first, or begins after the earlier one has ended
abbrev pub PairsNest : ℕ → List Bracket → Type 0
PairsNest most_open bs =
    (o c o2 c2 : ℕ) → IsPair most_open bs o c → IsPair most_open bs o2 c2 → o < o2 → (c < o2) ⊎ (c2 < c)

-- N0: an index is strictly inside a pair
abbrev pub is_inside_pair : ℕ → ℕ × ℕ → Bool
is_inside_pair k pair = nat_lt pair.0 k && nat_lt k pair.1

-- BD16: an index is inside at most as many pairs as brackets can be open
abbrev pub PairsAreShallow : ℕ → List Bracket → Type 0
PairsAreShallow most_open bs = (k : ℕ) → count_by (is_inside_pair k) (bracket_pairs_of most_open bs) ≤ most_open

-- how many indices are inside the pairs, counted for each pair
abbrev pub total_inside : List (ℕ × ℕ) → ℕ
total_inside pairs = sum_by (λ pair. pair.1 - (pair.0 + 1)) pairs

-- BD16: the total is at most most_open times the length
abbrev pub InsidesAreFew : ℕ → List Bracket → Type 0
InsidesAreFew most_open bs = total_inside (bracket_pairs_of most_open bs) ≤ most_open * length bs

-- the sum of f over the indices below an end
abbrev pub sum_below : (ℕ → ℕ) → ℕ → ℕ
sum_below f zero = 0
sum_below f (suc end) = sum_below f end + f end

-- how many indices are between an opener and its closer, if it has one
abbrev pub inside_of : ℕ → Option ℕ → ℕ
inside_of o None = 0
inside_of o (Some c) = c - (o + 1)

-- BD16: the same, counted opener by opener
abbrev pub InsidesAreFewByOpener : ℕ → List Bracket → Type 0
InsidesAreFewByOpener most_open bs =
    sum_below (λ o. inside_of o (closer_of (bracket_pairs_of most_open bs) o)) (length bs) ≤ most_open * length bs

-- BD16: if no bracket can be open, the first opening bracket is the stop
abbrev pub StopsAtFirstOpener : List Bracket → Type 0
StopsAtFirstOpener bs = stop_of 0 bs ≡ first_from (λ p. is_open (bracket_at bs p)) 0 (length bs)
