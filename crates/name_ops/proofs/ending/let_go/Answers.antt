use Rattle.std.proofs.Common.{arith}
use Rattle.name_ops.proofs.GivenPages.{lets_none, lets_next, lets_all}
use Rattle.name_ops.proofs.ending.let_go.Goals as goal

pub loop-i-init : goal.loop-i-init
loop-i-init c = lets_none c.args.held.now c.args.inodes.now.items

pub loop-i-preserved : goal.loop-i-preserved
loop-i-preserved c =
    let lt = c.requires c.loop-i.i 0 c.loop-i-test.true in
    lets_next c.args.held.now c.loop-i.i c.args.inodes.now.items c.loop-i.inodes.items c.index_mut.result.now (omega (
      arith,
      lt,
      c.loop-i.invariant.all,
    )) c.index_mut.ensures.value c.loop-i.invariant

pub returns : goal.returns
returns c = lets_all c.args.held.now c.loop-i.i c.args.inodes.now.items c.loop-i.inodes.items c.loop-i-test.false c.loop-i.auto.i-end
    c.loop-i.invariant
