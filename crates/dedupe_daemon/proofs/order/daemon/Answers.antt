use Rattle.dedupe_daemon.proofs.PassEnds.{few_places}
use Rattle.dedupe_daemon.proofs.order.daemon.Goals as goal

pub settle_share-requires-clause-few : goal.settle_share-requires-clause-few
settle_share-requires-clause-few g c = λ sharing begun. few_places g.D.Pm.state c.args.v.now c.requires.agrees c.requires.running sharing begun
