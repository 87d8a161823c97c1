use Rattle.std.proofs.Common.{take}
use Rattle.image_keep.specs.Keeping.{QueuesAll}
use Rattle.image_keep.proofs.keep.queue_items.Given as goal

abbrev pub invariant-loop-i : goal.invariant-loop-i
invariant-loop-i l = QueuesAll l.ino (take l.i l.items) l.map.map l.fn.work l.work
