use Rattle.std.proofs.Common.{◌≡◌, ◌∙◌, ◌≤◌, ap, arith, length, sym, take}
use Rattle.std.specs.Box.{boxed_slice_items}
use Rattle.std.proofs.lemmas.List.{length-take}
use Rattle.lines.specs.Scratches.{layout_in, text_len_of}
use Rattle.room.specs.Rooms.{RoomOf, characters_in}
use Rattle.room.proofs.room.Room.units_are_characters.Goals as goal

pub returns : goal.returns
returns c =
    let self = c.self.inside in
    let n = length (layout_in self.scratch).levels in
    let units : text_len_of self.scratch ≡ length (take n (boxed_slice_items self.units)) =
    c.self.invariant.holds.units in
    let levels : n ≤ text_len_of self.scratch =
    omega (arith, length-take self.scratch.used.units (boxed_slice_items self.scratch.text.levels)) in
    let all : length (take n (boxed_slice_items self.units)) ≡ n =
    omega (arith, units, levels, length-take n (boxed_slice_items self.units)) in
    sym (ap (λ (r : RoomOf). length r.text.units) c.self.view_is) ∙ all ∙ ap characters_in c.self.view_is
