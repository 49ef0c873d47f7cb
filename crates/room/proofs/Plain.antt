-- Texts each of whose units is a character.
use Rattle.std.proofs.Common.{◌≡◌, ◌∙◌, ◌+◌, ◌-◌, ◌≤◌, ℕ, List, Option, None, ap, arith, length, map, refl, sym}
use Rattle.std.specs.Prelude.{slice_index_or}
use Rattle.std.proofs.lemmas.List.{length-map, map-id}
use Rattle.ucdfiles.specs.Tables.{TablesOf, unit_by}
use Rattle.sources.specs.ClassNumbers.{unit_numbered}
use Rattle.sources.specs.NumberedUnits.{numbered_unit}
use Rattle.room.specs.Looking.{IsAt}
use Rattle.room.specs.Rooms.{RoomOf, offset_by, offset_in}
use Rattle.sources.specs.Sources.{SourceOf, Codes, Classes, Units, Utf8, Utf16, IsEncoded, size_of, source_offset, units_of}

pub length_plain : (tables : TablesOf) (source : SourceOf) → (IsEncoded source → ⊥) →
    length (units_of tables source) ≡ size_of source
length_plain tables (Codes numbers) plain = length-map numbers (unit_by tables)
length_plain tables (Classes numbers) plain = length-map numbers unit_numbered
length_plain tables (Units numbered) plain = length-map numbered numbered_unit
length_plain tables (Utf8 bytes faults) plain = absurd (plain refl)
length_plain tables (Utf16 units faults) plain = absurd (plain refl)

pub offset_plain : (source : SourceOf) → (IsEncoded source → ⊥) → (k : ℕ) → k ≡ source_offset source k
offset_plain (Codes numbers) plain k = refl
offset_plain (Classes numbers) plain k = refl
offset_plain (Units numbered) plain k = refl
offset_plain (Utf8 bytes faults) plain k = absurd (plain refl)
offset_plain (Utf16 units faults) plain k = absurd (plain refl)

-- a room with such a text: offsets are positions
module _ (room : RoomOf) (plain : room.text.offsets ≡ None) where
  pub position_at : (k : ℕ) → offset_in room k ≡ k
  position_at k = ap (λ (o : Option (List ℕ)). offset_by o k) plain

  pub positions_are_offsets : (order : List ℕ) → order ≡ map (offset_in room) order
  positions_are_offsets order =
      sym (ap (λ (o : Option (List ℕ)). map (offset_by o) order) plain ∙ map-id order)

  -- the unit of a character is its position
  pub level_stays : (levels : List (Option ℕ)) (first i k : ℕ) → IsAt room (offset_in room first + i) k → first ≤ k →
      slice_index_or levels i None ≡ slice_index_or levels (k - first) None
  level_stays levels first i k at begun =
      let from = at.from in
      let before = at.before in
      ap (λ (n : ℕ). slice_index_or levels n None) {x = i} {y = k - first}
      (omega (arith, from, before, begun, position_at first, position_at k, position_at (k + 1)))

  pub at_or_after : (first i k : ℕ) → IsAt room (offset_in room first + i) k → first ≤ k
  at_or_after first i k at =
      let before = at.before in
      omega (arith, before, position_at first, position_at (k + 1))
