use Rattle.std.proofs.Common.{arith}
use Rattle.page_alloc.proofs.FreeLaws.{length-free_le}
use Rattle.fact_scan.proofs.found.Found.mark_slot.Goals as goal

pub returns-then-slot-directs-clause-fewer : goal.returns-then-slot-directs-clause-fewer
returns-then-slot-directs-clause-fewer c = λ far.
    let few = length-free_le c.give_back.new.self c.give_back.ensures.in_order in
    omega (arith, few, c.give_back.ensures.gives_back.count, c.give_back.ensures.gives_back.pages, c.requires.set)
