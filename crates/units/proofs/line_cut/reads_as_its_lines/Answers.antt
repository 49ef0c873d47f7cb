use Rattle.units.proofs.LineReading.{cut_lines-CutsInto}
use Rattle.units.proofs.line_cut.reads_as_its_lines.Goals as goal

pub returns : goal.returns
returns c = cut_lines-CutsInto
