use Rattle.fact_table.specs.Table.{HasTable}
use Rattle.fact_tests.proofs.tests.try_all.Given as goal

abbrev pub invariant-loop-call : goal.invariant-loop-call
invariant-loop-call g l = HasTable (g.D.Pm.state l.device).now l.fact
