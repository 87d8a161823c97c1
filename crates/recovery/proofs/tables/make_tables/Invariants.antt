use Rattle.recovery.specs.Tables.{TablesMade}
use Rattle.recovery.proofs.tables.make_tables.Given as goal

abbrev pub invariant-loop-page : goal.invariant-loop-page
invariant-loop-page g l = let S = g.D.Pm.state in TablesMade l.g 16 l.page (S l.fn.device) (S l.device)
