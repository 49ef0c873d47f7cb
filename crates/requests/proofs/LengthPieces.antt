-- The pieces of lengths between their dots.
use Rattle.std.proofs.Common.{◌≡◌, ℕ, ◌<◌, List, [], ◌∷◌, length, None, refl, arith}
use Rattle.units.specs.Text.{cut_at}
use Rattle.units.proofs.Ranges.{cut_at-some}
use Rattle.requests.specs.LengthWords.{lengths_of_pieces}

pub pieces-two : (a b : List ℕ) → lengths_of_pieces (a ∷ b ∷ []) ≡ None
pieces-two a [] = refl
pieces-two a (x ∷ b) = refl

pub pieces-between : (a b : List ℕ) (more : List (List ℕ)) → 0 < length b → lengths_of_pieces (a ∷ b ∷ more) ≡ None
pieces-between a [] more lt = absurd (omega arith)
pieces-between a (x ∷ b) more lt = refl

pieces-four : (a b c d : List ℕ) (more : List (List ℕ)) → lengths_of_pieces (a ∷ b ∷ c ∷ d ∷ more) ≡ None
pieces-four a [] c d more = refl
pieces-four a (x ∷ b) c d more = refl

pub pieces-following : (a b c d : List ℕ) → lengths_of_pieces (a ∷ b ∷ c ∷ cut_at 46 d) ≡ None
pieces-following a b c d = let s = cut_at-some 46 d in rw s.2 (pieces-four a b c s.0 s.1)

pub ruleset length_pieces = (pieces-two, pieces-between, pieces-following)
