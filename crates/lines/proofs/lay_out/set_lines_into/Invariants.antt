use Rattle.lines.proofs.lay_out.set_lines_into.Given as goal

abbrev pub ghosts-break_counting : goal.ghosts-break_counting
ghosts-break_counting a = record { name = a.blank.name; parts = a.blank.parts }
