-- The places of units, written one after another.
use Rattle.std.proofs.Common.{◌≡◌, ◌+◌, ◌<◌, ℕ, List, arith, inl, inr}
use Rattle.std.specs.Prelude.{slice_index, ◌⊎◌}
use Rattle.std.proofs.lemmas.Bool.{cases_eq, cases_lt}
use Rattle.room.specs.Looking.{IsAt}
use Rattle.room.specs.Places.{IsPlace}
use Rattle.room.specs.Rooms.{RoomOf, characters_in, offset_in}

-- the unit belongs to the character, or not
decide : (room : RoomOf) (at k : ℕ) → k < characters_in room → IsAt room at k ⊎ (IsAt room at k → ⊥)
decide room at k inside = elim (cases_lt at (offset_in room k)) [
  | inl below ↦ inr (λ is. omega (arith, is.from, below))
  | inr from ↦ elim (cases_lt at (offset_in room (k + 1))) [
    | inl before ↦ inl (record { inside = inside; from = from; before = before })
    | inr following ↦ inr (λ is. omega (arith, is.before, following))
  ]
]

-- of one place more
module _ (room : RoomOf) (order : List ℕ) (n at : ℕ) (inside : slice_index order n < characters_in room) where
  still_none : ((other : ℕ) → other < n → IsAt room at (slice_index order other) → ⊥) →
      (IsAt room at (slice_index order n) → ⊥)
      → (other : ℕ) → other < n + 1 → IsAt room at (slice_index order other) → ⊥
  still_none none not other lt is = elim (cases_eq other n) [
    | inl last ↦ not (rw last at is)
    | inr before ↦ none other (omega (arith, lt, before)) is
  ]

  pub one_more : (old new : ℕ) → IsPlace room order n at old → (IsAt room at (slice_index order n) → new ≡ n)
      → ((IsAt room at (slice_index order n) → ⊥) → new ≡ old) → IsPlace room order (n + 1) at new
  one_more old new before here there = elim (decide room at (slice_index order n) inside) [
    | inl is ↦ rw (here is) (inl (omega arith, is))
    | inr not ↦ rw (there not) (elim before [
      | inl found ↦ inl (omega (arith, found.0), found.1)
      | inr none ↦ inr (none.0, still_none none.1 not)
    ])
  ]
