use Rattle.dedupe_daemon.proofs.find.find_row.Given as goal

abbrev pub ghosts-find_over : goal.ghosts-find_over
ghosts-find_over g a = record { name = a.blank.name; parts = a.blank.parts }
