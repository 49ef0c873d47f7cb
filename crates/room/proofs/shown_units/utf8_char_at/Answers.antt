use Rattle.room.proofs.CharactersAt.{code_of_char, code_of_fault}
use Rattle.room.proofs.shown_units.utf8_char_at.Goals as goal

pub returns-in-Some : goal.returns-in-Some
returns-in-Some c = code_of_char c.args.bytes.now c.args.at c.in-Some.c c.in-Some.field-0-1 c.in-Some.ensures

pub returns-in-None : goal.returns-in-None
returns-in-None c = code_of_fault c.args.bytes.now c.args.at c.requires c.in-None.ensures
