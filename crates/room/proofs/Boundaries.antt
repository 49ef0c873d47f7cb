-- Offsets at which the characters of a room's text begin, or at which it ends.
use Rattle.std.proofs.Common.{◌≡◌, ◌∙◌, ◌+◌, ◌<◌, ◌≤◌, ℕ, zero, suc, Option, None, Some, ap, arith, inl, inr}
use Rattle.std.specs.Prelude.{MatchOption}
use Rattle.std.specs.Option.{unwrap_or}
use Rattle.std.proofs.lemmas.Bool.{cases_lt}
use Rattle.room.specs.Boundaries.{IsBoundary}
use Rattle.room.specs.Looking.{IsAt, size_in}
use Rattle.room.specs.Rooms.{RoomOf, characters_in, offset_in}
use Rattle.room.proofs.LevelPass.{Rise}

module _ (room : RoomOf) (rise : Rise room) where
  -- offsets rise, or are those of one character
  pub not_below : (j k : ℕ) → j ≤ k → k ≤ characters_in room → offset_in room j ≤ offset_in room k
  not_below j k le inside = elim (cases_lt j k) [
    | inl below ↦ let up : offset_in room j < offset_in room k = rise j k below inside in omega (arith, up)
    | inr above ↦ let same : offset_in room j ≡ offset_in room k =
        ap (offset_in room) {x = j} {y = k} (omega (arith, above, le)) in omega (arith, same)
  ]

  -- a character with a smaller offset is an earlier one
  pub before_it : (j k : ℕ) → j ≤ characters_in room → offset_in room j < offset_in room k → j < k
  before_it j k inside less = elim (cases_lt j k) [
    | inl below ↦ below
    | inr above ↦ let up : offset_in room k ≤ offset_in room j = not_below k j above inside in
        absurd (omega (arith, up, less))
  ]

  -- there are as many units as characters, or more
  pub spread_out : (first n : ℕ) → first + n ≤ characters_in room →
      offset_in room first + n ≤ offset_in room (first + n)
  spread_out first zero inside = let same : offset_in room (first + 0) ≡ offset_in room first =
      ap (offset_in room) {x = first + 0} {y = first} (omega arith) in omega (arith, same)
  spread_out first (suc n) inside =
      let before : offset_in room first + n ≤ offset_in room (first + n) = spread_out first n (omega (arith, inside)) in
      let up : offset_in room (first + n) < offset_in room (first + suc n) =
      rise (first + n) (first + suc n) (omega arith) inside in
      omega (arith, before, up)

  -- no character begins at an offset within another one
  within_none : (at k : ℕ) → IsAt room at k → (offset_in room k ≡ at → ⊥) →
      IsBoundary (offset_in room) (characters_in room) at → ⊥
  within_none at k is other boundary =
      let begins = boundary.begins in
      let from = is.from in
      let before = is.before in
      elim (cases_lt boundary.index (k + 1)) [
        | inl below ↦
            let up : offset_in room boundary.index ≤ offset_in room k =
            not_below boundary.index k (omega (arith, below)) (omega (arith, is.inside)) in
            other (omega (arith, begins, from, up))
        | inr above ↦
            let up : offset_in room (k + 1) ≤ offset_in room boundary.index =
            not_below (k + 1) boundary.index above boundary.inside in
            omega (arith, begins, before, up)
      ]

  -- no character begins after the text
  none_after : (at : ℕ) → size_in room ≤ at → (size_in room ≡ at → ⊥) →
      IsBoundary (offset_in room) (characters_in room) at → ⊥
  none_after at past other boundary =
      let begins = boundary.begins in
      let up : offset_in room boundary.index ≤ size_in room =
      not_below boundary.index (characters_in room) boundary.inside (omega arith) in
      other (omega (arith, begins, up, past))

  -- only the character with this index, or the text's end, could begin there
  pub no_boundary : (at : ℕ) (found : Option ℕ) (index : ℕ) → MatchOption found (size_in room ≤ at) (IsAt room at) →
      index ≡ unwrap_or found (characters_in room)
      → (offset_in room index ≡ at → ⊥) → IsBoundary (offset_in room) (characters_in room) at → ⊥
  no_boundary at None index past is other = none_after at past (λ e. other (ap (offset_in room) is ∙ e))
  no_boundary at (Some k) index within is other = within_none at k within (λ e. other (ap (offset_in room) is ∙ e))
