use Rattle.dn_volume.proofs.Tables.{is_table, some_map, none_map, running_disk}
use Rattle.dn_volume.proofs.volume.Volume.row_at.Goals as goal

pub row_at-requires-clause-table : goal.row_at-requires-clause-table
row_at-requires-clause-table g c =
    let found = running_disk g.D.Pm.state c.args.self.now c.requires.running c.requires.agrees in
    record { disk = found.0; is = is_table found.0 c.args.self.now.parts (g.D.Pm.state c.args.self.now.device) found.1 }

pub returns-clause-found : goal.returns-clause-found
returns-clause-found g c =
    some_map c.row_at.result _ _ (λ r has d v. has d (is_table d c.args.self.now.parts (g.D.Pm.state c.args.self.now.device) v))
    c.row_at.ensures.found

pub returns-clause-none : goal.returns-clause-none
returns-clause-none g c =
    none_map c.row_at.result _ _ (λ has d v. has d (is_table d c.args.self.now.parts (g.D.Pm.state c.args.self.now.device) v)) c.row_at.ensures.none
