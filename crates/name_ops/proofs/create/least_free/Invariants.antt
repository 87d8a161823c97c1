use Rattle.name_ops.specs.Creating.{NoneFreeBelow}
use Rattle.name_ops.proofs.create.least_free.Given as goal

abbrev pub invariant-loop-ino : goal.invariant-loop-ino
invariant-loop-ino l = NoneFreeBelow l.inodes l.ino
