use Rattle.dn_check.proofs.Marking.{HasMarked}
use Rattle.dn_check.proofs.read.pages_with_rows.Given as goal

abbrev pub invariant-loop-page : goal.invariant-loop-page
invariant-loop-page l = HasMarked l.wanted l.page l.has_row.items
