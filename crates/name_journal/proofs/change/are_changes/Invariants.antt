use Rattle.name_journal.proofs.Named.{AreBelow}
use Rattle.name_journal.proofs.change.are_changes.Given as goal

abbrev pub invariant-loop-i : goal.invariant-loop-i
invariant-loop-i l = AreBelow l.g.inodes l.changes l.i
