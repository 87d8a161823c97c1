use Rattle.std.proofs.Common.{arith}
use Rattle.image_keep.proofs.Queued.{queued_none, queued_next, queued_all}
use Rattle.image_keep.proofs.keep.queue_items.Goals as goal

pub loop-i-init : goal.loop-i-init
loop-i-init c = queued_none c.args.ino c.args.map.now.map c.args.items.now c.args.work.now

pub loop-i-preserved : goal.loop-i-preserved
loop-i-preserved c =
    queued_next c.args.ino c.args.map.now.map c.args.items.now c.loop-i.i c.index-items-i.result c.args.work.now c.loop-i.work c.queue_item.new.work
    c.loop-i-test.true c.loop-i.invariant (rw (← c.index-items-i.is) c.in_ok-queue_item.ensures)

pub returns : goal.returns
returns c = queued_all c.args.ino c.args.map.now.map c.args.items.now c.loop-i.i c.args.work.now c.loop-i.work (omega (arith, c.loop-i-test.false))
    c.loop-i.invariant
