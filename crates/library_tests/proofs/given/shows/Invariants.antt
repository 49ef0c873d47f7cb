use Rattle.library_tests.proofs.given.shows.Given as goal

abbrev pub ghosts-shows_counting : goal.ghosts-shows_counting
ghosts-shows_counting g a = record { name = a.blank.name; parts = a.blank.parts }
