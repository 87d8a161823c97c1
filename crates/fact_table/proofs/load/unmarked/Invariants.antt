use Rattle.fact_table.proofs.Loading.{HasUnmarked}
use Rattle.fact_table.proofs.load.unmarked.Given as goal

abbrev pub invariant-loop-k : goal.invariant-loop-k
invariant-loop-k l = HasUnmarked l.used l.k l.set
