use Rattle.file_ops.specs.Giving.{QueuesSlots}
use Rattle.file_ops.proofs.giving.queue_slots.Given as goal

abbrev pub invariant-loop-j : goal.invariant-loop-j
invariant-loop-j l = QueuesSlots l.ino l.round l.tail l.fresh l.j l.fn.queue l.queue
