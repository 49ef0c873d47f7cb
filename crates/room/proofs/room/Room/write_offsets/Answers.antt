use Rattle.std.proofs.Common.{◌∙◌, ◌≤◌, ℕ, List, Option, ap, arith, length, map, sym}
use Rattle.std.proofs.lemmas.List.{map-id, take_all}
use Rattle.room.specs.Rooms.{offset_by, offset_in}
use Rattle.room.proofs.room.Room.write_offsets.Goals as goal

pub returns-then-is_plain : goal.returns-then-is_plain
returns-then-is_plain c =
    let order = c.args.order.now in
    c.copy_from_slice.ensures.after ∙
    sym (ap (λ (o : Option (List ℕ)). map (offset_by o) order) (c.is_plain.ensures c.if-is_plain.true) ∙
    map-id order)

pub returns : goal.returns
returns c =
    let l = c.loop-i in
    let all : length l.out ≤ l.i = omega (arith, c.loop-i-test.false, l.auto.out) in
    let all_order : length c.args.order.now ≤ l.i = omega (arith, c.loop-i-test.false, l.auto.out, c.requires.len) in
    sym (take_all l.i l.out all) ∙ l.invariant ∙
    ap (map (offset_in c.args.self.now)) (take_all l.i c.args.order.now all_order)
