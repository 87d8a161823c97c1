use Rattle.std.proofs.Common.{arith}
use Rattle.page_alloc.proofs.Written.{first_at}
use Rattle.page_alloc.proofs.first_marked.Goals as goal

pub overflow_mul-result : goal.overflow_mul-result
overflow_mul-result c =
    let first = c.in_ok-at.ensures.first in
    let b = c.lowest_bit-bit.ensures in
    let fits = c.requires _ (first_at c.args.words.now c.in_ok-at.at c.lowest_bit-bit.result first.inside b.below b.one b.lowest first.zeros).is in
    omega arith

pub overflow_add-result : goal.overflow_add-result
overflow_add-result c =
    let first = c.in_ok-at.ensures.first in
    let b = c.lowest_bit-bit.ensures in
    let fits = c.requires _ (first_at c.args.words.now c.in_ok-at.at c.lowest_bit-bit.result first.inside b.below b.one b.lowest first.zeros).is in
    omega arith
