use Rattle.std.proofs.Common.{◌-◌, arith, length, slice_index, take}
use Rattle.decoding.proofs.BreakIndices.{breaks_of_indices, few_breaks}
use Rattle.room.proofs.finding.find_indices.Goals as goal

pub write_indices-requires-clause-room : goal.write_indices-requires-clause-room
write_indices-requires-clause-room c =
    let few = few_breaks c.args.breaks.now (slice_index c.args.starts.now (length c.args.starts.now - 1))
    c.in_default.ensures.1 in
    omega (arith, few, c.requires.fits)

pub returns-in-Ok-clause-characters : goal.returns-in-Ok-clause-characters
returns-in-Ok-clause-characters c =
    breaks_of_indices c.args.starts.now c.args.breaks.now (take (length c.args.breaks.now) c.write_indices.new.indices)
    (length c.args.starts.now - 1) c.requires.starts (omega (arith, c.requires.some))
    c.in_default.ensures.1 (record { found = c.in-Ok.ensures.found; inside = c.in-Ok.ensures.inside })
