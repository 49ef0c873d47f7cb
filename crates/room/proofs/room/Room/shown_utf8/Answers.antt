use Rattle.room.proofs.CharactersAt.{reads_utf8}
use Rattle.room.proofs.room.Room.shown_utf8.Goals as goal

pub returns-then-count-out-clause-characters : goal.returns-then-count-out-clause-characters
returns-then-count-out-clause-characters c faults h =
    reads_utf8 c.args.self.now c.args.bytes.now faults c.units_are_characters.ensures h

pub returns-else-count-out-clause-characters : goal.returns-else-count-out-clause-characters
returns-else-count-out-clause-characters c faults h =
    reads_utf8 c.args.self.now c.args.bytes.now faults c.units_are_characters.ensures h
