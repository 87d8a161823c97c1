use Rattle.std.proofs.Common.{refl, ap}
use Rattle.board_tests.proofs.Trials.{head_stands, next_stands}
use Rattle.board_tests.proofs.turns.count_both.Goals as goal

pub returns-clause-first : goal.returns-clause-first
returns-clause-first g c = next_stands _ _ _ _ _ _ _ _ _ _ _ _ _ c.close-value.ensures c.together-passes.ensures.items refl
    (ap (λ a. a.number) c.parted-first.ensures.fresh.0) c.join-a.ensures.first.1

pub returns-clause-second : goal.returns-clause-second
returns-clause-second g c = head_stands _ _ _ _ _ _ _ _ _ _ _ _ _ c.close-value.ensures c.together-passes.ensures.items refl
    (ap (λ a. a.number) c.parted-first.ensures.fresh.1) c.join-a.ensures.second.1
