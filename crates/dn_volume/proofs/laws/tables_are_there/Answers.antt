use Rattle.dn_volume.proofs.Tables.{is_table}
use Rattle.dn_volume.proofs.laws.tables_are_there.Goals as goal

pub returns : goal.returns
returns c = is_table
