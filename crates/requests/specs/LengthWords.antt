-- The lengths in the value of an option.
use Rattle.std.specs.Prelude.{◌≡◌, ℕ, List, [], ◌∷◌, Option, None}
use Rattle.units.specs.Text.{cut_at, ends, number_up_to}
use Rattle.requests.specs.declared.fault.Fault.{Fault}
use Rattle.requests.specs.declared.fault.Fault.TheVariants.{NoLengths}

-- a length: `0`, or decimal digits of which the first is not `0`, at most 65,535
abbrev pub length_of : List ℕ → Option ℕ
length_of word = number_up_to 65535 word

-- the least and the greatest length from these pieces between dots: `N`, or `N..N`
abbrev pub lengths_of_pieces : List (List ℕ) → Option (ℕ × ℕ)
lengths_of_pieces (one ∷ []) = ends (length_of one) (length_of one)
lengths_of_pieces (least ∷ [] ∷ greatest ∷ []) = ends (length_of least) (length_of greatest)
lengths_of_pieces _ = None

-- the least and the greatest length of a value
abbrev pub lengths_named : List ℕ → Option (ℕ × ℕ)
lengths_named word = lengths_of_pieces (cut_at 46 word)

-- when a fault ends the reading of lengths: the value is not a range of lengths
abbrev pub EndsLengths : List ℕ → Fault → Type 0
EndsLengths word (NoLengths noted) = (noted.now ≡ word) × (lengths_named word ≡ None)
EndsLengths word _ = ⊥
