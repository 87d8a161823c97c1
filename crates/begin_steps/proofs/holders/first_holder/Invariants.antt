use Rattle.std.proofs.Common.{take}
use Rattle.begin_steps.specs.Held.{AreLooseAmong}
use Rattle.begin_steps.proofs.holders.first_holder.Given as goal

abbrev pub invariant-loop-i : goal.invariant-loop-i
invariant-loop-i l = AreLooseAmong l.fn.inodes (take l.i l.fn.wanted)
