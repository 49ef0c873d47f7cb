use Rattle.room.proofs.Plain.{positions_are_offsets}
use Rattle.room.proofs.room.Room.turn_to_offsets.Goals as goal

pub returns-then-is_plain : goal.returns-then-is_plain
returns-then-is_plain c =
    positions_are_offsets c.args.self.now (c.is_plain.ensures c.if-is_plain.true) c.args.order.now
