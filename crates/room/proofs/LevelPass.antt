-- The levels of units, written character by character.
use Rattle.std.proofs.Common.{◌≡◌, ◌∙◌, ◌+◌, ◌<◌, ◌≤◌, ℕ, List, Option, None, ap, arith, inl, inr, length, subst}
use Rattle.std.specs.Prelude.{◌⊎◌, slice_index_or}
use Rattle.std.proofs.lemmas.Bool.{cases_lt}
use Rattle.room.specs.Looking.{IsAt, size_in}
use Rattle.room.specs.Rooms.{RoomOf, characters_in, offset_by, offset_in}

-- the offsets of a room's characters rise
abbrev pub Rise : RoomOf → Type 0
Rise room = (j k : ℕ) → j < k → k ≤ characters_in room → offset_in room j < offset_in room k

-- if offsets are positions, each character has its own
pub at_position : (room : RoomOf) → room.text.offsets ≡ None → (at k : ℕ) → IsAt room at k → at ≡ k
at_position room plain at k is =
    let from : k ≤ at = subst (λ (o : Option (List ℕ)). offset_by o k ≤ at) plain is.from in
    let before : at < k + 1 = subst (λ (o : Option (List ℕ)). at < offset_by o (k + 1)) plain is.before in
    omega (arith, from, before)

-- the levels of the units before an offset are written, each that of its character, encoded
abbrev pub AreWritten : {T : Type 0} → (Option ℕ → T) → T → RoomOf → List T → ℕ → Type 0
AreWritten encode d room out from =
    (at k : ℕ) → at < from → IsAt room at k →
    slice_index_or out at d ≡ encode (slice_index_or room.layout.levels k None)

module _ (room : RoomOf) (rise : Rise room) where
  -- offsets rise, or are those of one character
  no_later : (at j k : ℕ) → IsAt room at j → IsAt room at k → j < k → ⊥
  no_later at j k a b lt = elim (cases_lt (j + 1) k) [
    | inl below ↦ let up : offset_in room (j + 1) < offset_in room k = rise (j + 1) k below (omega (arith, b.inside)) in
        omega (arith, a.before, b.from, up)
    | inr above ↦ let same : offset_in room (j + 1) ≡ offset_in room k =
        ap (offset_in room) {x = j + 1} {y = k} (omega (arith, above, lt)) in omega (arith, a.before, b.from, same)
  ]

  pub one_character : (at j k : ℕ) → IsAt room at j → IsAt room at k → j ≡ k
  one_character at j k a b = elim (cases_lt j k) [
    | inl below ↦ absurd (no_later at j k a b below)
    | inr above ↦ elim (cases_lt k j) [
      | inl under ↦ absurd (no_later at k j b a under)
      | inr level ↦ omega (arith, above, level)
    ]
  ]

  -- a unit of a character is within the text
  pub at_inside : (at k : ℕ) → IsAt room at k → at < size_in room
  at_inside at k a = elim (cases_lt (k + 1) (characters_in room)) [
    | inl below ↦ let up : offset_in room (k + 1) < size_in room =
        rise (k + 1) (characters_in room) below (omega arith) in omega (arith, a.before, up)
    | inr above ↦ let same : offset_in room (k + 1) ≡ size_in room =
        ap (offset_in room) {x = k + 1} {y = characters_in room} (omega (arith, above, a.inside)) in
        omega (arith, a.before, same)
  ]

  -- the levels of one character more are written
  pub one_more : {T : Type 0} (encode : Option ℕ → T) (d : T) (old new : List T) (k from to : ℕ) (encoded : T) →
      from ≡ offset_in room k → to ≡ offset_in room (k + 1)
      → k < characters_in room → to ≤ length old → encoded ≡ encode (slice_index_or room.layout.levels k None)
      → ((i : ℕ) (e : T) → from ≤ i → i < to → i < length old → slice_index_or new i e ≡ encoded)
      → ((i : ℕ) (e : T) → (i < from) ⊎ (to ≤ i) → slice_index_or new i e ≡ slice_index_or old i e)
      → AreWritten encode d room old from → AreWritten encode d room new to
  one_more encode d old new k from to encoded begins ends inside fits level put others before at j lt is =
      elim (cases_lt at from) [
        | inl earlier ↦ others at d (inl earlier) ∙ before at j earlier is
        | inr here ↦
            let mine : IsAt room at k = record {
              inside = inside;
              from = omega (arith, begins, here);
              before = omega (arith, ends, lt);
            } in
            let same : k ≡ j = one_character at k j mine is in
            put at d here lt (omega (arith, lt, fits)) ∙ level ∙
            ap (λ (n : ℕ). encode (slice_index_or room.layout.levels n None)) same
      ]
