-- The position that a link of a sequence leads to.
use Rattle.std.specs.Prelude.{Option, Some, ℕ, ◌+◌, ◌<◌, ◌≡◌, List, length, Contains, IfSome, slice_get, slice_index}
use Rattle.std.proofs.Common.{arith, ap, sym, ◌∙◌}
use Rattle.std.proofs.lemmas.List.{get_or_default}
use Rattle.std.proofs.lemmas.Option.{slice_get_cases}
use Rattle.units.specs.Runs.{LeveledView, SequenceView, sequences_of, successor}
use Rattle.explicit.specs.Leveled.{IsLeveled}
use Rattle.sequences.specs.Links.{ArePositions, IsChain, link_at}
use Rattle.sequences.proofs.AlongSequences.{successors_along}

next_later : (ps : List ℕ) (n k : ℕ) → ArePositions ps n → k < length ps →
    IfSome (slice_get ps (k + 1)) (λ q. (slice_index ps k < q) × (q < n))
next_later ps n k are within = grind (arith, slice_get_cases, get_or_default)

-- the positions are those of a sequence, and the links are theirs
module _ (s : SequenceView) (links : List (Option ℕ)) (are : ArePositions s.positions (length links))
    (chain : IsChain s.positions links) (p : ℕ) (c : Contains s.positions p) where
  at_its_place : slice_index s.positions c.0 ≡ p
  at_its_place = get_or_default s.positions c.0 0 p c.1 ∙ c.2

  pub position_within : p < length links
  position_within = omega (arith, are.within c.0 c.1, at_its_place)

  pub link_is_next : link_at links p ≡ slice_get s.positions (c.0 + 1)
  link_is_next = ap (link_at links) (sym at_its_place) ∙ chain c.0 c.1

  pub link_later : IfSome (link_at links p) (λ q. (p < q) × (q < length links))
  link_later = grind (arith, at_its_place, link_is_next, next_later)

  pub link_is_successor : (t : LeveledView) (j : ℕ) → IsLeveled t → slice_get (sequences_of t) j ≡ Some s →
      link_at links p ≡ successor t p
  link_is_successor t j leveled found =
      link_is_next ∙ sym (successors_along t leveled j c.0 s found c.1) ∙ ap (successor t) at_its_place
