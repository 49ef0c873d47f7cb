use Rattle.std.proofs.Common.{sym}
use Rattle.rows.proofs.TextCuts.{lines-first, lines-one}
use Rattle.rows.proofs.text_lines.cut_line.Goals as goal

pub returns-in-None-clause-lines : goal.returns-in-None-clause-lines
returns-in-None-clause-lines c = lines-one c.args.text.now (sym c.in-None.ensures)

pub returns-in-Some-clause-lines : goal.returns-in-Some-clause-lines
returns-in-Some-clause-lines c = lines-first c.args.text.now c.in-Some.at (sym c.in-Some.ensures)
