use Rattle.rule_columns.proofs.columns.columns_of.Given as goal

abbrev pub ghosts-columns_with : goal.ghosts-columns_with
ghosts-columns_with a = record { name = a.blank.name; parts = a.blank.parts }
