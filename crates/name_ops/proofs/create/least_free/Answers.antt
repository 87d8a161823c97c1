use Rattle.name_ops.proofs.FoundNew.{none_next, least_here}
use Rattle.name_ops.proofs.create.least_free.Goals as goal

pub returns-then-is_free-clause-least : goal.returns-then-is_free-clause-least
returns-then-is_free-clause-least c = least_here c.args.inodes.now c.loop-ino.ino c.index-inodes-ino.result c.loop-ino.auto.ino c.loop-ino-test.true
    c.index-inodes-ino.is (c.is_free.ensures.0 c.if-is_free.true) c.loop-ino.invariant

pub loop-ino-preserved : goal.loop-ino-preserved
loop-ino-preserved c = none_next c.args.inodes.now c.loop-ino.ino c.index-inodes-ino.result c.loop-ino-test.true c.index-inodes-ino.is
    (λ free. let high = c.is_free.ensures.1 free in let low = c.if-is_free.false in cc) c.loop-ino.invariant
