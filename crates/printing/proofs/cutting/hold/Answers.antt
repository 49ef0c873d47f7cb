use Rattle.printing.proofs.ReadBytesLemmas.{moved_first}
use Rattle.printing.proofs.cutting.hold.Goals as goal

pub returns-clause-stored : goal.returns-clause-stored
returns-clause-stored c =
    moved_first c.args.buffer.now _ c.args.taken c.args.filled _ c.requires.taken c.requires.filled c.min-stored.ensures
    c.copy_within.ensures.after
