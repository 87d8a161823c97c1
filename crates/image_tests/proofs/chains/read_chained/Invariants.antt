use Rattle.image_tests.proofs.chains.read_chained.Given as goal

abbrev pub ghosts-read_over : goal.ghosts-read_over
ghosts-read_over g a = record { name = a.blank.name; parts = a.blank.parts }
