use Rattle.size_ops.proofs.taking.take_for_cut.Goals as goal

pub returns-in-Err-clause-no_memory : goal.returns-in-Err-clause-no_memory
returns-in-Err-clause-no_memory c = λ err. c.untake_pages.ensures c.args.free.now c.requires.in_order c.in_ok-pages.ensures.taken
