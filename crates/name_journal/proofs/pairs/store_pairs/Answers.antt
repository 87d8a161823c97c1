use Rattle.std.proofs.Common.{arith}
use Rattle.name_journal.proofs.Paired.{pairs_ready}
use Rattle.name_journal.proofs.pairs.store_pairs.Goals as goal

pub returns-clause-ready : goal.returns-clause-ready
returns-clause-ready g c =
    pairs_ready c.args.who c.args.changes.now (g.D.Pm.state c.args.device.now).now c.pair_words-words.result (g.D.Pm.state c.store_words.new.device)
    c.requires.few (omega (arith, c.store_words.ensures.only.words, c.requires.page)) c.pair_words-words.ensures c.store_words.ensures.holds
