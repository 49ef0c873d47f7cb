use Rattle.std.proofs.Common.{arith}
use Rattle.room.proofs.CharactersAt.{Are16Bits, reads_utf16}
use Rattle.room.proofs.room.Room.shown_utf16.Goals as goal

pub returns-then-count-out-clause-characters : goal.returns-then-count-out-clause-characters
returns-then-count-out-clause-characters c faults h =
    let are : Are16Bits c.args.text.now = λ k. omega (arith, c.type_inv.text k) in
    reads_utf16 c.args.self.now c.args.text.now faults are c.units_are_characters.ensures h

pub returns-else-count-out-clause-characters : goal.returns-else-count-out-clause-characters
returns-else-count-out-clause-characters c faults h =
    let are : Are16Bits c.args.text.now = λ k. omega (arith, c.type_inv.text k) in
    reads_utf16 c.args.self.now c.args.text.now faults are c.units_are_characters.ensures h
