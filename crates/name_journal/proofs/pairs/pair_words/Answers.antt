use Rattle.std.proofs.Common.{refl, arith}
use Rattle.name_journal.specs.Changes.{address}
use Rattle.name_journal.proofs.Paired.{one_pair}
use Rattle.name_journal.proofs.pairs.pair_words.Goals as goal

pub loop-i-preserved : goal.loop-i-preserved
loop-i-preserved g c =
    one_pair c.args.changes.now (g.D.Pm.state c.args.device.now).now c.loop-i.words c.loop-i.i (address c.args.changes.now c.loop-i.i) c.load.result
    (omega (arith, c.loop-i-test.true, c.requires.few)) refl c.load.ensures c.loop-i.invariant
