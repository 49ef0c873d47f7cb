use Rattle.std.proofs.Common.{◌≡◌, ap, arith, length, subst, sym}
use Rattle.std.specs.Prelude.{min}
use Rattle.std.proofs.lemmas.List.{length-take-le}
use Rattle.room.specs.LineOf.{RejectsLineIn}
use Rattle.room.specs.Rooms.{RoomOf, offset_in}
use Rattle.room.specs.declared.line_of.LineFault.{LineFault}
use Rattle.room.proofs.Spans.{narrow, rejected, whole, written}
use Rattle.room.proofs.room.Room.line_of.Goals as goal

pub line_of_characters-requires-clause-levels : goal.line_of_characters-requires-clause-levels
line_of_characters-requires-clause-levels c =
    let few = narrow c.args.self.now c.offsets_rise.ensures.rising c.args.start c.args.end c.in_ok-first.first
    c.in_ok-first.last c.in_ok-first.ensures in
    omega (arith, few, c.if-min-count.false, c.min.ensures, c.saturating_sub-count.ensures)

pub line_of_characters-requires-clause-order : goal.line_of_characters-requires-clause-order
line_of_characters-requires-clause-order c =
    let few = narrow c.args.self.now c.offsets_rise.ensures.rising c.args.start c.args.end c.in_ok-first.first
    c.in_ok-first.last c.in_ok-first.ensures in
    omega (arith, few, c.if-min-count.false, c.min.ensures, c.saturating_sub-count.ensures)

pub slice_bounds-turn_to_offsets-end : goal.slice_bounds-turn_to_offsets-end
slice_bounds-turn_to_offsets-end c =
    let few = narrow c.args.self.now c.offsets_rise.ensures.rising c.args.start c.args.end c.in_ok-first.first
    c.in_ok-first.last c.in_ok-first.ensures in
    omega (
      arith,
      c.line_of_characters.auto.order,
      c.in-Ok.ensures.line.few,
      few,
      c.if-min-count.false,
      c.min.ensures,
      c.saturating_sub-count.ensures,
    )

pub slice_bounds-turn_to_offsets-end-in-Ok : goal.slice_bounds-turn_to_offsets-end-in-Ok
slice_bounds-turn_to_offsets-end-in-Ok c =
    let few = narrow c.args.self.now c.offsets_rise.ensures.rising c.args.start c.args.end c.in_ok-first.first
    c.in_ok-first.last c.in_ok-first.ensures in
    sym (length-take-le c.in-Ok.shown c.line_of_characters.new.order
    (omega (
      arith,
      c.line_of_characters.auto.order,
      c.in-Ok.ensures.line.few,
      few,
      c.if-min-count.false,
      c.min.ensures,
      c.saturating_sub-count.ensures,
    )))

pub spread_levels-requires-clause-room : goal.spread_levels-requires-clause-room
spread_levels-requires-clause-room c =
    let all = whole c.args.self.now c.offsets_rise.ensures.rising c.args.start c.args.end c.in_ok-first.first
    c.in_ok-first.last c.in_ok-first.ensures in
    let same = c.in-Ok.ensures.same in
    let long = length-take-le c.saturating_sub-count.result c.line_of_characters.new.levels (omega (
      arith,
      c.line_of_characters.auto.levels,
      c.if-min-count.false,
      c.min.ensures,
    )) in
    let first : offset_in c.line_of_characters.new.self c.in_ok-first.first ≡
    offset_in c.args.self.now c.in_ok-first.first = ap (λ (r : RoomOf). offset_in r c.in_ok-first.first) same in
    let last : offset_in c.line_of_characters.new.self c.in_ok-first.last ≡
    offset_in c.args.self.now c.in_ok-first.last = ap (λ (r : RoomOf). offset_in r c.in_ok-first.last) same in
    omega (arith, first, last, long, all, c.saturating_sub-count.ensures)

pub returns-in-Ok-clause-line : goal.returns-in-Ok-clause-line
returns-in-Ok-clause-line c =
    let few = narrow c.args.self.now c.offsets_rise.ensures.rising c.args.start c.args.end c.in_ok-first.first
    c.in_ok-first.last c.in_ok-first.ensures in
    written c.args.self.now c.offsets_rise.ensures.rising c.args.start c.args.end c.in_ok-first.first c.in_ok-first.last
    c.in_ok-first.ensures
    c.line_of_characters.new.self c.in-Ok.ensures.same c.saturating_sub-count.result c.in-Ok.shown c.args.levels.now
    c.line_of_characters.new.levels c.spread_levels.new.levels
    c.args.order.now c.line_of_characters.new.order c.turn_to_offsets.new.order c.saturating_sub-count.ensures
    (omega (arith, c.line_of_characters.auto.levels, c.if-min-count.false, c.min.ensures))
    (omega (
      arith,
      c.line_of_characters.auto.order,
      c.in-Ok.ensures.line.few,
      few,
      c.if-min-count.false,
      c.min.ensures,
      c.saturating_sub-count.ensures,
    ))
    c.in-Ok.ensures.line c.spread_levels.ensures.len c.spread_levels.ensures.spread c.turn_to_offsets.ensures

pub returns-in-Err-clause-line : goal.returns-in-Err-clause-line
returns-in-Err-clause-line c =
    let places = min (length c.args.levels.now) (length c.args.order.now) in
    subst (λ (f : LineFault). RejectsLineIn c.args.self.now c.args.start c.args.end places f)
    (sym c.fault_of_span.ensures)
    (rejected c.args.self.now c.offsets_rise.ensures.rising c.args.start c.args.end c.in_ok-first.first
    c.in_ok-first.last c.in_ok-first.ensures
    places c.in-Err.fault c.units_are_characters.ensures (omega (
      arith,
      c.if-min-count.false,
      c.min.ensures,
      c.saturating_sub-count.ensures,
    )) c.in-Err.ensures.line)
