use Rattle.units.proofs.LineReading.{never_both}
use Rattle.units.proofs.line_cut.reads_one_way.Goals as goal

pub returns : goal.returns
returns c = never_both
