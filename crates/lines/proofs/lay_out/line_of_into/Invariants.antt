use Rattle.lines.proofs.lay_out.line_of_into.Given as goal

abbrev pub ghosts-line_counting : goal.ghosts-line_counting
ghosts-line_counting a = record { name = a.blank.name; parts = a.blank.parts }
