use Rattle.std.proofs.Common.{subst, arith}
use Rattle.std.proofs.lemmas.Bool.{ltb-true, lt-ltb}
use Rattle.page_alloc.specs.Free.{IsInOrder}
use Rattle.page_alloc.proofs.Sets.{in_order, bit-contains, is_marked-contains}
use Rattle.page_alloc.proofs.FreeSet.is_free.Goals as goal

pub returns-then-page-self-clause-free : goal.returns-then-page-self-clause-free
returns-then-page-self-clause-free c =
    rw (← c.self.view_is) (bit-contains c.self.inside.words.items c.self.inside.pages c.args.page c.index.result.now c.self.invariant.covers c.if-page-self.true c.index.ensures)

pub returns-then-page-self-clause-in_order : goal.returns-then-page-self-clause-in_order
returns-then-page-self-clause-in_order c = subst IsInOrder c.self.view_is (in_order c.self.inside.words.items c.self.inside.pages)

pub returns-else-page-self-clause-free : goal.returns-else-page-self-clause-free
returns-else-page-self-clause-free c =
    rw (← c.self.view_is) (
      λ is. absurd (let lt = ltb-true _ _ is in omega arith),
      λ has. let lt = (is_marked-contains c.self.inside.words.items c.self.inside.pages c.args.page has).0 in lt-ltb _ _ lt,
    )

pub returns-else-page-self-clause-in_order : goal.returns-else-page-self-clause-in_order
returns-else-page-self-clause-in_order c = subst IsInOrder c.self.view_is (in_order c.self.inside.words.items c.self.inside.pages)
