use Rattle.layout_rows.proofs.parts.push_part.Given as goal

abbrev pub ghosts-push_counting : goal.ghosts-push_counting
ghosts-push_counting a = record { name = a.blank.name; parts = a.blank.parts }
