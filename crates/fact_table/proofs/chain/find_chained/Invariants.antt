use Rattle.fact_table.proofs.Search.{IsSearched}
use Rattle.fact_table.proofs.chain.find_chained.Given as goal

abbrev pub invariant-loop-i : goal.invariant-loop-i
invariant-loop-i g l = IsSearched l.g (g.D.Pm.state l.device).now l.first l.print l.fn.steps l._i l.slot l.steps
