use Rattle.std.proofs.Common.{◌≡◌, ◌<◌, length, get_or, arith}
use Rattle.begin_steps.proofs.HoldsAll.{hold_none, hold_next}
use Rattle.begin_steps.proofs.starts.hold_all.Goals as goal

pub loop-i-init : goal.loop-i-init
loop-i-init c = hold_none c.args.who c.args.inodes.now.items c.args.held.now

pub loop-i-preserved : goal.loop-i-preserved
loop-i-preserved c =
    let inside : get_or c.args.held.now c.loop-i.i 0 < length c.args.inodes.now.items = c.requires c.loop-i.i 0 c.loop-i-test.true in
    let long : length c.loop-i.inodes.items ≡ length c.args.inodes.now.items = c.loop-i.invariant.all in
    hold_next c.args.who c.args.inodes.now.items c.loop-i.inodes.items c.args.held.now c.loop-i.i 0 c.loop-i-test.true c.loop-i.invariant
    (omega (arith, inside, long)) c.index_mut.result.now c.hold.new.node _ c.index_mut.ensures.value c.hold.ensures.node
