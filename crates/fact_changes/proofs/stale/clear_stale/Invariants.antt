use Rattle.fact_changes.proofs.Staled.{IsClearing}
use Rattle.fact_changes.proofs.stale.clear_stale.Given as goal

abbrev pub invariant-loop-page : goal.invariant-loop-page
invariant-loop-page g l = IsClearing l.fact l.who l.page (g.D.Pm.state l.fn.device) (g.D.Pm.state l.device)
