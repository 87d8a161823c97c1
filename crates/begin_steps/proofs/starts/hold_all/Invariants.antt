use Rattle.std.proofs.Common.{take}
use Rattle.dn_volume.specs.Kept.{OfInodes}
use Rattle.begin_steps.specs.Starting.{TakesHold}
use Rattle.begin_steps.proofs.starts.hold_all.Given as goal

abbrev pub invariant-loop-i : goal.invariant-loop-i
invariant-loop-i l = OfInodes (TakesHold l.fn.who (take l.i l.fn.held)) l.fn.inodes.items l.inodes.items
