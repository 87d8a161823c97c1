use Rattle.dn_check.proofs.TableReads.{pages_inside, read_of_each}
use Rattle.dn_check.proofs.read.read_rest.Goals as goal

pub returns-clause-whole : goal.returns-clause-whole
returns-clause-whole g c =
    let read = c.requires.read in
    let table = c.in_ok-table.ensures.table in
    record {
      long_logs = read.long_logs;
      long_mapped = read.long_mapped;
      long_rows = table.long;
      pages = pages_inside c.args.g.now (g.D.Pm.state c.args.device.now).now c.in_ok-table.table.rows.items table.has;
    }

pub returns-clause-read : goal.returns-clause-read
returns-clause-read g c =
    read_of_each c.args.g.now (g.D.Pm.state c.args.device.now).now c.args.logs c.in_ok-table.table c.in_ok-ask_links.ensures.linked
    c.requires.read c.in_ok-table.ensures.table
