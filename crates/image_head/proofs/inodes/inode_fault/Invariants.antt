use Rattle.std.proofs.Common.{◌<◌, ℕ}
use Rattle.dn_model.specs.Faults.{IsBadInode}
use Rattle.image_head.proofs.inodes.inode_fault.Given as goal

abbrev pub invariant-loop-ino : goal.invariant-loop-ino
invariant-loop-ino g l = (k : ℕ) → k < l.ino → IsBadInode (g.D.Pm.state l.device).now k → ⊥
