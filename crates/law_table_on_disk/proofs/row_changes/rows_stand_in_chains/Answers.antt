use Rattle.law_table.proofs.TableRows.{good_of, stands_in_chain, chain_holds}
use Rattle.law_table_on_disk.proofs.row_changes.rows_stand_in_chains.Goals as goal

pub returns-clause-listed : goal.returns-clause-listed
returns-clause-listed c = λ d valid. stands_in_chain d (good_of d valid)

pub returns-clause-held : goal.returns-clause-held
returns-clause-held c = λ d valid. chain_holds d (good_of d valid)
