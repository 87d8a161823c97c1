use Rattle.inode_log.specs.PrepareLoop.{StoresSlots}
use Rattle.inode_log.proofs.prepare.prepare.Given as goal

abbrev pub invariant-loop-slot : goal.invariant-loop-slot
invariant-loop-slot g l = let S = g.D.Pm.state in StoresSlots l.g l.who l.ino l.slots l.fresh (S l.fn.device) l.slot-index l.tail l.used (S l.device)
