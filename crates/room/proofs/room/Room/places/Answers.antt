use Rattle.std.proofs.Common.{◌≡◌, ◌≤◌, ap, arith, length}
use Rattle.units.specs.Layout.{TextLayout}
use Rattle.lines.specs.Layouts.{view_of}
use Rattle.room.specs.Rooms.{characters_in, offset_in}
use Rattle.room.proofs.Boundaries.{not_below}
use Rattle.room.proofs.room.Room.places.Goals as goal

pub overflow_sub-count : goal.overflow_sub-count
overflow_sub-count c =
    let room = c.args.self.now in
    let line = c.line-line.result in
    let all : length (view_of c.layout-layout.result).levels ≡ characters_in room =
    ap (λ (v : TextLayout). length v.levels) c.layout-layout.ensures.layout in
    let up : offset_in room line.start ≤ offset_in room line.end =
    not_below room c.offsets_rise.ensures.rising line.start line.end c.line-line.ensures.forward (omega (
      arith,
      c.line-line.ensures.inside,
      all,
    )) in
    omega (arith, up, c.offset_of-start.ensures, c.offset_of.ensures)
