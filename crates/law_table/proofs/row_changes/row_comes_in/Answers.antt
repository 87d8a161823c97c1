use Rattle.law_table.proofs.Opened.{opening_decides, opening_puts_row}
use Rattle.law_table.proofs.Linked.{link_decides, link_puts_row}
use Rattle.law_table.proofs.Unused.{indirect_untold, closed_untold}
use Rattle.law_table.proofs.row_changes.row_comes_in.Goals as goal

pub returns-clause-opening : goal.returns-clause-opening
returns-clause-opening c = opening_decides

pub returns-clause-opened : goal.returns-clause-opened
returns-clause-opened c = opening_puts_row

pub returns-clause-link : goal.returns-clause-link
returns-clause-link c = link_decides

pub returns-clause-linked : goal.returns-clause-linked
returns-clause-linked c = link_puts_row

pub returns-clause-indirect : goal.returns-clause-indirect
returns-clause-indirect c = indirect_untold

pub returns-clause-direct : goal.returns-clause-direct
returns-clause-direct c = closed_untold
