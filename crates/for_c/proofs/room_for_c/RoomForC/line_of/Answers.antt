use Rattle.std.proofs.Common.{◌≡◌, ◌∙◌, ◌≤◌, ◌<◌, ℕ, List, Option, ap, arith, inl, inr, length, map, subst, sym, take}
use Rattle.std.proofs.lemmas.Bool.{cases_lt}
use Rattle.std.proofs.lemmas.List.{length-take-le}
use Rattle.std.specs.Prelude.{◌-◌}
use Rattle.room.specs.Looking.{size_in}
use Rattle.room.specs.LineOf.{WritesLineOf}
use Rattle.room.specs.Rooms.{RoomOf, characters_in, offset_in}
use Rattle.room.specs.Written.{WritesWhole}
use Rattle.for_c.specs.LevelBytes.{level_byte}
use Rattle.for_c.proofs.LinesInBytes.{put_back, written_bytes}
use Rattle.for_c.proofs.room_for_c.RoomForC.line_of.Goals as goal

-- the line is no longer than the column
fits : (room : RoomOf) (start end first last : ℕ) → ((j k : ℕ) → j < k → k ≤ characters_in room →
    offset_in room j < offset_in room k)
    → last ≤ characters_in room → offset_in room last ≡ end → size_in room ≤ room.capacity → end - start ≤ room.capacity
fits room start end first last rising inside ends small =
    let whole : offset_in room last ≤ size_in room = elim (cases_lt last (characters_in room)) [
      | inl lt ↦ let up = rising last (characters_in room) lt (omega arith) in omega (arith, up)
      | inr ge ↦ let same = ap (offset_in room) {x = last} {y = characters_in room} (omega (arith, ge, inside)) in
          omega (arith, same)
    ] in
    omega (arith, whole, ends, small)

pub slice_bounds-write_levels-end : goal.slice_bounds-write_levels-end
slice_bounds-write_levels-end c =
    let w = c.in-Ok.ensures.line in
    let le = fits c.self.inside.room c.args.start c.args.end w.first w.last c.offsets_rise.ensures.rising w.span.inside
    w.span.ends c.text_fits.ensures in
    let long : c.saturating_sub-count.result ≤ length c.deref.result.now =
    omega (
      arith,
      le,
      c.saturating_sub-count.ensures,
      c.deref.ensures.len,
      c.deref_mut.ensures.len,
      ap length c.deref_mut.ensures.value,
      c.self.invariant,
    ) in
    sym (length-take-le c.saturating_sub-count.result c.deref.result.now long)

pub returns-clause-line : goal.returns-clause-line
returns-clause-line c =
    let w = c.in-Ok.ensures.line in
    let le = fits c.self.inside.room c.args.start c.args.end w.first w.last c.offsets_rise.ensures.rising w.span.inside
    w.span.ends c.text_fits.ensures in
    let count = c.saturating_sub-count.result in
    let column : List (Option ℕ) = c.line_of.new.levels in
    let len = c.line_of.auto.levels ∙ c.deref_mut.ensures.len in
    let back : c.deref.result.now ≡ column = put_back column _ c.deref.result.now _ len c.deref.ensures.value in
    let long : count ≤ length column = omega (
      arith,
      le,
      c.saturating_sub-count.ensures,
      c.line_of.auto.levels,
      ap length c.deref_mut.ensures.value,
      c.self.invariant,
    ) in
    let writes : WritesWhole (map level_byte (take count column)) c.write_levels.result c.args.levels.now
    c.write_levels.new.out =
    subst (λ (xs : List (Option ℕ)).
    WritesWhole (map level_byte (take count xs)) c.write_levels.result c.args.levels.now c.write_levels.new.out)
    back c.write_levels.ensures in
    let line : WritesLineOf c.args.self.now c.args.start c.args.end c.deref_mut.result.now column c.args.order.now
    c.line_of.new.order c.in-Ok.found =
    subst (λ (r : RoomOf).
    WritesLineOf r c.args.start c.args.end c.deref_mut.result.now column c.args.order.now c.line_of.new.order
    c.in-Ok.found) c.self.view_is w in
    record {
      fits = omega (arith, c.if-min-count.false, c.min.ensures, c.saturating_sub-count.ensures);
      line = written_bytes c.args.self.now c.args.start c.args.end count c.write_levels.result c.deref_mut.result.now
          column c.args.levels.now c.write_levels.new.out
          c.args.order.now c.line_of.new.order c.in-Ok.found c.saturating_sub-count.ensures long (omega (
            arith,
            c.if-min-count.false,
            c.min.ensures,
          )) line writes;
      unchanged_levels = tt;
      unchanged_order = tt;
      unchanged_shown = tt;
      reason = tt;
    }
