use Rattle.std.proofs.Common.{◌≡◌, ◌+◌, ◌++◌, take}
use Rattle.log_clean.specs.Finishing.{due_works}
use Rattle.log_clean.proofs.finish.queue_due.Given as goal

abbrev pub invariant-loop-slot : goal.invariant-loop-slot
invariant-loop-slot l = record {
  items : l.queue.items ≡ l.fn.queue.items ++ due_works l.ino l.round (take l.slot-index l.due);
  room : l.queue.room + l.slot-index ≡ l.fn.queue.room;
}
