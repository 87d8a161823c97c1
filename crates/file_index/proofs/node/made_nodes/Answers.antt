use Rattle.std.proofs.Common.{arith, rules}
use Rattle.file_index.proofs.Nodes.{fresh_more}
use Rattle.file_index.proofs.node.made_nodes.Goals as goal

pub loop-alloc-preserved : goal.loop-alloc-preserved
loop-alloc-preserved c =
    let made = c.loop-alloc.made in
    let fresh = c.in_ok-vec.ensures.items_if_clones_equal (λ y e. search rules) in (
      omega (arith, c.in_ok-push.ensures.len, c.loop-alloc-test.true, c.len.ensures),
      rw c.in_ok-push.ensures.items (fresh_more made.items c.in_ok-vec.field-0 c.loop-alloc.invariant.1 fresh),
    )
