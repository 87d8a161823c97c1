use Rattle.name_journal.specs.Pairs.{HavePairs}
use Rattle.name_journal.proofs.pairs.pair_words.Given as goal

abbrev pub invariant-loop-i : goal.invariant-loop-i
invariant-loop-i g l = HavePairs l.changes (g.D.Pm.state l.device).now l.i l.words
