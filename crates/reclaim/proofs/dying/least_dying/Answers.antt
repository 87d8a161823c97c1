use Rattle.reclaim.proofs.DyingFound.{least_here, none_before, none_at_all}
use Rattle.reclaim.proofs.dying.least_dying.Goals as goal

pub returns-then-is_dying-clause-found : goal.returns-then-is_dying-clause-found
returns-then-is_dying-clause-found c = least_here c.args.inodes.now c.loop-i.i c.index-inodes-i.result c.loop-i-test.true c.index-inodes-i.is
    c.loop-i.invariant (c.is_dying.ensures.0 c.if-is_dying.true)

pub loop-i-preserved : goal.loop-i-preserved
loop-i-preserved c = none_before c.args.inodes.now c.loop-i.i c.index-inodes-i.result c.loop-i-test.true c.index-inodes-i.is c.loop-i.invariant
    c.is_dying.result c.if-is_dying.false c.is_dying.ensures.1

pub returns-clause-none : goal.returns-clause-none
returns-clause-none c = none_at_all c.args.inodes.now c.loop-i.i c.loop-i-test.false c.loop-i.invariant
