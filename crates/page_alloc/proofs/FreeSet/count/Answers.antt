use Rattle.std.proofs.Common.{subst}
use Rattle.page_alloc.specs.Free.{IsInOrder}
use Rattle.page_alloc.proofs.Sets.{in_order}
use Rattle.page_alloc.proofs.FreeSet.count.Goals as goal

pub returns-clause-in_order : goal.returns-clause-in_order
returns-clause-in_order c = subst IsInOrder c.self.view_is (in_order c.self.inside.words.items c.self.inside.pages)
