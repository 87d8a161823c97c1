use Rattle.std.proofs.Common.{length, ap, arith}
use Rattle.dn_volume.proofs.Tables.{running_disk, is_table}
use Rattle.dn_volume.proofs.FewReleases.{row_slots_few}
use Rattle.data_begins.proofs.LiveFiles.{node_at, blocks_in_table, places_are}
use Rattle.data_begins.proofs.ready.list_ready.Goals as goal

pub rows_of-requires-clause-table : goal.rows_of-requires-clause-table
rows_of-requires-clause-table g c =
    let found = running_disk g.D.Pm.state c.args.v.now c.requires.running c.requires.agrees in
    record { disk = found.0; is = is_table found.0 c.args.v.now.parts (g.D.Pm.state c.args.v.now.device) found.1 }

pub rows_of-requires-clause-blocks : goal.rows_of-requires-clause-blocks
rows_of-requires-clause-blocks g c =
    let found = running_disk g.D.Pm.state c.args.v.now c.requires.running c.requires.agrees in
    let s = g.D.Pm.state c.args.v.now.device in
    let file = (c.requires.asks found.0 found.1).is.file in
    let node = c.index-node.result.now in
    blocks_in_table found.0 c.args.v.now.parts s found.1 c.args.ask.now.ino file node
    (node_at found.0 c.args.v.now.parts s found.1 c.args.ask.now.ino file node c.index-node.ensures)

pub returns-clause-rows : goal.returns-clause-rows
returns-clause-rows g c = λ d volume.
    let s = g.D.Pm.state c.args.v.now.device in
    let file = (c.requires.asks d volume).is.file in
    let node = c.index-node.result.now in
    c.in_ok-rows.ensures d c.args.ask.now.ino (is_table d c.args.v.now.parts s volume)
    (places_are d c.args.v.now.parts s volume c.args.ask.now.ino file node
    (node_at d c.args.v.now.parts s volume c.args.ask.now.ino file node c.index-node.ensures))

pub returns-clause-few : goal.returns-clause-few
returns-clause-few g c =
    let found = running_disk g.D.Pm.state c.args.v.now c.requires.running c.requires.agrees in
    let s = g.D.Pm.state c.args.v.now.device in
    let is = (c.requires.asks found.0 found.1).is in
    let node = c.index-node.result.now in
    let same = ap length (c.in_ok-rows.ensures found.0 c.args.ask.now.ino (is_table found.0 c.args.v.now.parts s found.1)
    (places_are found.0 c.args.v.now.parts s found.1 c.args.ask.now.ino is.file node
    (node_at found.0 c.args.v.now.parts s found.1 c.args.ask.now.ino is.file node c.index-node.ensures))) in
    let few = row_slots_few found.0 c.args.ask.now.ino c.args.ask.now.lost c.args.ask.now.lost_places in
    omega (arith, same, few, is.in_file)
