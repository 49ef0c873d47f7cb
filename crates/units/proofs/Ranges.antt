-- The pieces of a range between its dots.
use Rattle.std.proofs.Common.{◌≡◌, ℕ, ◌<◌, List, [], ◌∷◌, length, None, refl, arith, ap, ◌==◌, true, false, cond}
use Rattle.std.specs.List.{onto_first}
use Rattle.units.specs.Text.{ends_of_pieces, cut_at}

pub ends_of_pieces-two : (a b : List ℕ) → ends_of_pieces (a ∷ b ∷ []) ≡ None
ends_of_pieces-two a [] = refl
ends_of_pieces-two a (x ∷ b) = refl

pub ends_of_pieces-between : (a b : List ℕ) (more : List (List ℕ)) → 0 < length b → ends_of_pieces (a ∷ b ∷ more) ≡ None
ends_of_pieces-between a [] more lt = absurd (omega arith)
ends_of_pieces-between a (x ∷ b) more lt = refl

pub ends_of_pieces-four : (a b c d : List ℕ) (more : List (List ℕ)) → ends_of_pieces (a ∷ b ∷ c ∷ d ∷ more) ≡ None
ends_of_pieces-four a [] c d more = refl
ends_of_pieces-four a (x ∷ b) c d more = refl

-- what a cut gives is never nothing
pub cut_at-some : (separator : ℕ) (bs : List ℕ) → (piece : List ℕ) × (pieces : List (List ℕ)) ×
    (cut_at separator bs ≡ piece ∷ pieces)
cut_at-some separator [] = ([], [], refl)
cut_at-some separator (b ∷ bs) =
    let again = cut_at-some separator bs in
    elim (b == separator) as (λ t. (piece : List ℕ) × (pieces : List (List ℕ)) ×
    (cond t ([] ∷ cut_at separator bs) (onto_first b (cut_at separator bs)) ≡ piece ∷ pieces)) [
      | true ↦ ([], cut_at separator bs, refl)
      | false ↦ (b ∷ again.0, again.1, ap (onto_first b) again.2)
    ]

pub ends_of_pieces-following : (a b c d : List ℕ) → ends_of_pieces (a ∷ b ∷ c ∷ cut_at 46 d) ≡ None
ends_of_pieces-following a b c d = let s = cut_at-some 46 d in rw s.2 (ends_of_pieces-four a b c s.0 s.1)

pub ruleset range_pieces = (ends_of_pieces-two, ends_of_pieces-between, ends_of_pieces-following)
