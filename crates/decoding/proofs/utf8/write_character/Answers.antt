use Rattle.decoding.proofs.BlockReading.{read_char}
use Rattle.decoding.proofs.utf8.write_character.Goals as goal

pub returns-clause-read : goal.returns-clause-read
returns-clause-read c bytes is read =
    read_char c.args.borrowed.now bytes _ c.args.found.following c.args.before c.args.units.now c.args.starts.now
    c.write_in_block.new.unit c.requires.units c.requires.starts c.write_in_block.ensures is.spelled read
