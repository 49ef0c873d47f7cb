-- The levels of characters, spread to their units from the last to the first.
use Rattle.std.proofs.Common.{◌≡◌, ◌∙◌, ◌+◌, ◌-◌, ◌<◌, ◌≤◌, ℕ, List, Option, None, ap, arith, inl, inr, length, subst, sym}
use Rattle.std.specs.Prelude.{slice_index_or, ◌⊎◌}
use Rattle.std.proofs.lemmas.Bool.{cases_eq}
use Rattle.room.specs.Looking.{IsAt}
use Rattle.room.specs.Rooms.{RoomOf, characters_in, offset_in}
use Rattle.room.proofs.Boundaries.{not_below, spread_out}
use Rattle.room.proofs.LevelPass.{Rise}

-- the levels of characters from this one on are spread, and the items before it are unchanged
pub record AreSpread (room : RoomOf) (first from : ℕ) (old now : List (Option ℕ)) : Type 0 where
  pub len : length now ≡ length old
  pub unchanged : (i : ℕ) → offset_in room first + i < offset_in room from →
      slice_index_or now i None ≡ slice_index_or old i None
  pub spread : (i j : ℕ) → i < length old → from ≤ j → IsAt room (offset_in room first + i) j →
      slice_index_or now i None ≡ slice_index_or old (j - first) None

module _ (room : RoomOf) (rise : Rise room) (first k : ℕ) (begun : first ≤ k) (inside : k < characters_in room) where
  -- the level of a character is at the item of its first unit, or before it
  pub item_before : offset_in room first + (k - first) ≤ offset_in room k
  item_before =
      let n : first + (k - first) ≡ k = omega (arith, begun) in
      let out : offset_in room first + (k - first) ≤ offset_in room (first + (k - first)) =
      spread_out room rise first (k - first) (omega (arith, n, inside)) in
      let same : offset_in room (first + (k - first)) ≡ offset_in room k = ap (offset_in room) n in
      omega (arith, out, same)

  pub item_inside : offset_in room first + (k - first) < offset_in room (k + 1)
  item_inside = let up : offset_in room k < offset_in room (k + 1) =
      rise k (k + 1) (omega arith) (omega (arith, inside)) in omega (arith, item_before, up)

  -- one character more
  module _ (old before after : List (Option ℕ)) (level : Option ℕ) (len : length after ≡ length before) (is : level ≡
      slice_index_or before (k - first) None)
      (put : (i : ℕ) → offset_in room k - offset_in room first ≤ i → i < offset_in room (k + 1) - offset_in room first →
      i < length before → slice_index_or after i None ≡ level)
      (others : (i : ℕ) → (i < offset_in room k - offset_in room first) ⊎
      (offset_in room (k + 1) - offset_in room first ≤ i) →
      slice_index_or after i None ≡ slice_index_or before i None)
      (now : AreSpread room first (k + 1) old before) where
    spread_more : (i j : ℕ) → i < length old → k ≤ j → IsAt room (offset_in room first + i) j →
        slice_index_or after i None ≡ slice_index_or old (j - first) None
    spread_more i j lt le at = elim (cases_eq j k) [
      | inl here ↦
          let is_at : IsAt room (offset_in room first + i) k =
          subst (λ (n : ℕ). IsAt room (offset_in room first + i) n) here at in
          put i (omega (arith, is_at.from)) (omega (arith, is_at.before)) (omega (arith, lt, now.len)) ∙ is ∙
          now.unchanged (k - first) item_inside
          ∙ ap (λ (n : ℕ). slice_index_or old (n - first) None) (sym here)
      | inr other ↦
          let up : offset_in room (k + 1) ≤ offset_in room j =
          not_below room rise (k + 1) j (omega (arith, le, other)) (omega (arith, at.inside)) in
          others i (inr (omega (arith, up, at.from))) ∙ now.spread i j lt (omega (arith, le, other)) at
    ]

    pub more_spread : AreSpread room first k old after
    more_spread =
        let up : offset_in room k < offset_in room (k + 1) = rise k (k + 1) (omega arith) (omega (arith, inside)) in
        record {
          len = len ∙ now.len;
          unchanged = λ i lt. others i (inl (omega (arith, lt))) ∙ now.unchanged i (omega (arith, lt, up));
          spread = spread_more;
        }

-- what is known of a character whose level is spread next
pub record IsNext (room : RoomOf) (first k len : ℕ) : Type 0 where
  pub item : k - first < len
  pub from : offset_in room first ≤ offset_in room k
  pub to : offset_in room first ≤ offset_in room (k + 1)

pub is_next : (room : RoomOf) (rise : Rise room) (first k last len : ℕ) → first ≤ k → k < last →
    last ≤ characters_in room → offset_in room first + len ≡ offset_in room last
    → IsNext room first k len
is_next room rise first k last len begun before inside whole =
    let item : offset_in room first + (k - first) < offset_in room (k + 1) =
    item_inside room rise first k begun (omega (arith, before, inside)) in
    let end : offset_in room (k + 1) ≤ offset_in room last =
    not_below room rise (k + 1) last (omega (arith, before)) inside in
    let up : offset_in room first ≤ offset_in room k =
    not_below room rise first k begun (omega (arith, before, inside)) in
    let over : offset_in room k ≤ offset_in room (k + 1) =
    not_below room rise k (k + 1) (omega arith) (omega (arith, before, inside)) in
    record { item = omega (arith, item, end, whole); from = up; to = omega (arith, up, over) }
