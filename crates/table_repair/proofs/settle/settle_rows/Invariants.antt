use Rattle.table_repair.proofs.AllRows.{IsPartSettled}
use Rattle.table_repair.proofs.settle.settle_rows.Given as goal

abbrev pub invariant-loop-row : goal.invariant-loop-row
invariant-loop-row g l = IsPartSettled l.rows l.mapped l.row-index l.fn.fact l.fact (g.D.Pm.state l.fn.device) (g.D.Pm.state l.device)
