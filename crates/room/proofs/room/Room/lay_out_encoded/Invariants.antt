use Rattle.room.proofs.room.Room.lay_out_encoded.Given as goal

abbrev pub ghosts-lay_out_units : goal.ghosts-lay_out_units
ghosts-lay_out_units a = record { name = a.blank.name; parts = a.blank.parts }
