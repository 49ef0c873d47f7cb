use Rattle.paragraph.proofs.FlatLevels.{unit_remains}
use Rattle.paragraph.proofs.fast_paths.write_all.Goals as goal

pub write_level_at-requires-clause-remains : goal.write_level_at-requires-clause-remains
write_level_at-requires-clause-remains g c = λ e.
    unit_remains c.args.para.now c.loop-p.p c.loop-p-test.true c.requires.remain
