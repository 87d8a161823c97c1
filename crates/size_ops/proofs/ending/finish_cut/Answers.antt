use Rattle.std.proofs.Common.{subst}
use Rattle.std.specs.Prelude.{Contains}
use Rattle.size_ops.proofs.ending.finish_cut.Goals as goal

pub give_back_pages-requires-clause-below : goal.give_back_pages-requires-clause-below
give_back_pages-requires-clause-below c = let can = c.requires.can in λ page has. can.1.can.spare_below page
    (subst (λ xs. Contains xs page) c.deref.ensures.value has)

pub give_back_pages-requires-clause-taken : goal.give_back_pages-requires-clause-taken
give_back_pages-requires-clause-taken c = let can = c.requires.can in λ page has. can.1.can.spare_taken page
    (subst (λ xs. Contains xs page) c.deref.ensures.value has)
