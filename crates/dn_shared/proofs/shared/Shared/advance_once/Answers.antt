use Rattle.count_board.specs.Passes.{account}
use Rattle.dn_shared.proofs.Calling.{flies_as_client}
use Rattle.dn_shared.proofs.shared.Shared.advance_once.Goals as goal

pub turn-made-requires : goal.turn-made-requires
turn-made-requires g c = record {
  own = c.requires.own;
  away = c.requires.away;
  may = flies_as_client _ (account c.args.pass.now) c.number-who.result c.requires.flies.0 c.number-who.ensures c.requires.client.0
      c.requires.client.1 c.requires.flies.1;
}
