use Rattle.file_ops.proofs.GivenPages.{queues_none, queues_next}
use Rattle.file_ops.proofs.giving.queue_slots.Goals as goal

pub loop-j-init : goal.loop-j-init
loop-j-init c = queues_none c.args.ino c.args.round c.args.tail c.args.fresh.now c.args.queue.now

pub loop-j-preserved : goal.loop-j-preserved
loop-j-preserved c =
    queues_next c.args.ino c.args.round c.args.tail c.args.fresh.now c.loop-j.j c.slot_after-slot.result c.args.queue.now c.loop-j.queue
    c.push.new.self c.loop-j.invariant c.slot_after-slot.ensures c.push.ensures
