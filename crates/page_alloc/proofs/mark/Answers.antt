use Rattle.page_alloc.proofs.Bits.{marks, unmarks}
use Rattle.page_alloc.proofs.mark.Goals as goal

pub returns-then-on : goal.returns-then-on
returns-then-on c = rw c.if-on.true (marks c.args.words.now c.args.place c.requires)

pub returns-else-on : goal.returns-else-on
returns-else-on c = rw c.if-on.false (unmarks c.args.words.now c.args.place c.requires)
