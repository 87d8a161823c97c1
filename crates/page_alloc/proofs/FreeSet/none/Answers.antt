use Rattle.std.proofs.Common.{arith}
use Rattle.page_alloc.proofs.Sets.{empty-bitmap, empty-set}
use Rattle.page_alloc.proofs.FreeSet.none.Goals as goal

pub invariant_of-result : goal.invariant_of-result
invariant_of-result c =
    let words = c.in_ok-words.ensures.items_if_clones_equal (λ y e. e) in
    let summary = c.in_ok-summary.ensures.items_if_clones_equal (λ y e. e) in
    rw (words, summary, c.div_ceil.ensures, c.div_ceil-2.ensures, c.len.ensures, c.in_ok-words.ensures.len) (empty-bitmap _ _ c.args.pages (grind arith) (grind arith))

pub returns : goal.returns
returns c = let items = c.in_ok-words.ensures.items_if_clones_equal (λ y e. e) in rw items (empty-set _ c.args.pages)
