use Rattle.room.proofs.laying_out.lay_out_empty.Given as goal

abbrev pub ghosts-lay_out_units : goal.ghosts-lay_out_units
ghosts-lay_out_units a = record { name = a.blank.name; parts = a.blank.parts }
