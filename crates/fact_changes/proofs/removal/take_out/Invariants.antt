use Rattle.fact_changes.proofs.removal.take_out.Given as goal

abbrev pub ghosts-before_over : goal.ghosts-before_over
ghosts-before_over g a = record { name = a.blank.name; parts = a.blank.parts }
