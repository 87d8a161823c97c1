use Rattle.name_journal.proofs.Stored.{StoresValues}
use Rattle.name_journal.proofs.values.store_values.Given as goal

abbrev pub invariant-loop-change : goal.invariant-loop-change
invariant-loop-change g l = StoresValues l.who l.changes (g.D.Pm.state l.fn.device) l.change-index (g.D.Pm.state l.device)
