use Rattle.std.proofs.Common.{◌≡◌, ◌+◌, ◌≤◌, ℕ, Bool, List, arith, length, refl, subst, take, true, false}
use Rattle.std.proofs.lemmas.List.{get_or-take, length-take}
use Rattle.std.specs.Prelude.{slice_index}
use Rattle.std.specs.Box.{boxed_slice_items}
use Rattle.lines.specs.Scratches.{layout_in, room_of, text_len_of}
use Rattle.room.specs.Insides.{offsets_if}
use Rattle.room.specs.Looking.{size_in}
use Rattle.room.specs.Rooms.{RoomOf, offset_by}
use Rattle.room.proofs.room.Room.text_fits.Goals as goal

-- the text ends within the room, whether offsets are positions or not
ends : (b : Bool) (starts : List ℕ) (n room : ℕ) → (b ≡ true → slice_index starts n ≤ room) → n ≤ room →
    offset_by (offsets_if b (take (n + 1) starts)) n ≤ room
ends true starts n room spelled plain = omega (arith, spelled refl, get_or-take (n + 1) starts n 0 (omega arith))
ends false starts n room spelled plain = plain

pub returns : goal.returns
returns c =
    let self = c.self.inside in
    let n : ℕ = length (layout_in self.scratch).levels in
    let stored = c.self.invariant.holds.units in
    let used : n ≤ text_len_of self.scratch =
    omega (arith, length-take (text_len_of self.scratch) (boxed_slice_items self.scratch.text.levels)) in
    let fits : n ≤ room_of self.scratch = omega (
      arith,
      used,
      stored,
      length-take n (boxed_slice_items self.units),
      c.self.invariant.fits,
    ) in
    subst (λ (r : RoomOf). size_in r ≤ r.capacity) c.self.view_is (ends self.spelled (boxed_slice_items self.starts) n
    (room_of self.scratch) c.self.invariant.ends fits)
