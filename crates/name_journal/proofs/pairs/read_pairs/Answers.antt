use Rattle.name_journal.proofs.Paired.{four_pairs}
use Rattle.name_journal.proofs.pairs.read_pairs.Goals as goal

pub returns : goal.returns
returns g c =
    four_pairs (g.D.Pm.state c.args.device.now).now c.pair.result c.pair-2.result c.pair-3.result c.pair-4.result
    c.pair.ensures.at c.pair.ensures.value c.pair-2.ensures.at c.pair-2.ensures.value c.pair-3.ensures.at c.pair-3.ensures.value c.pair-4.ensures.at
    c.pair-4.ensures.value
