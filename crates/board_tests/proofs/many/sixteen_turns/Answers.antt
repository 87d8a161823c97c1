use Rattle.std.proofs.Common.{subst, sym}
use Rattle.count_board.specs.Passes.{AreAll}
use Rattle.count_board.proofs.Members.{dealt_all}
use Rattle.board_tests.proofs.many.sixteen_turns.Goals as goal

pub turn_for_each-requires-clause-passes : goal.turn_for_each-requires-clause-passes
turn_for_each-requires-clause-passes g c κs within = subst (AreAll _ _) (sym c.as_mut_slice.ensures.value) (dealt_all _ _ _ _ c.in-Ok.ensures.passes)
