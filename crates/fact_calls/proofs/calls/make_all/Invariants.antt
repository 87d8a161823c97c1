use Rattle.fact_calls.proofs.Course.{IsMade}
use Rattle.fact_calls.proofs.calls.make_all.Given as goal

abbrev pub invariant-loop-i : goal.invariant-loop-i
invariant-loop-i g l = IsMade l.who l.calls l.i l.fn.fact l.fact (g.D.Pm.state l.fn.device) (g.D.Pm.state l.device)
