use Rattle.room.proofs.base_levels.level_of_first.Given as goal

abbrev pub ghosts-level_counting : goal.ghosts-level_counting
ghosts-level_counting a = record { name = a.blank.name; parts = a.blank.parts }
