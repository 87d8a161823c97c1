use Rattle.count_board.proofs.Giving.{gives_same}
use Rattle.board_tests.proofs.site.look.Goals as goal

pub give_turn-requires-clause-ready : goal.give_turn-requires-clause-ready
give_turn-requires-clause-ready g c = gives_same _ _ _ _ _ c.args.pass.now _ _ c.take_turn-site.ensures c.requires.own
