use Rattle.law_table.proofs.TableRows.{prefix_small, stands_in_chain, chain_holds}
use Rattle.law_table.proofs.row_changes.rows_stand_in_chains.Goals as goal

pub returns-clause-prefixes : goal.returns-clause-prefixes
returns-clause-prefixes c = prefix_small

pub returns-clause-listed : goal.returns-clause-listed
returns-clause-listed c = stands_in_chain

pub returns-clause-held : goal.returns-clause-held
returns-clause-held c = chain_holds
