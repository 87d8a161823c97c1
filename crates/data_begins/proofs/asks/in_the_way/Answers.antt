use Rattle.dn_volume.proofs.Tables.{running_disk, is_table}
use Rattle.data_begins.proofs.LiveFiles.{none_waits, node_at, blocks_in_table, places_are}
use Rattle.data_begins.proofs.InTheWay.{is_in_the_way}
use Rattle.data_begins.proofs.asks.in_the_way.Goals as goal

pub count_rows-lost-requires-clause-table : goal.count_rows-lost-requires-clause-table
count_rows-lost-requires-clause-table g c =
    let found = running_disk g.D.Pm.state c.args.v.now c.requires.running c.requires.agrees in
    record { disk = found.0; is = is_table found.0 c.args.v.now.parts (g.D.Pm.state c.args.v.now.device) found.1 }

pub count_rows-lost-requires-clause-blocks : goal.count_rows-lost-requires-clause-blocks
count_rows-lost-requires-clause-blocks g c =
    let found = running_disk g.D.Pm.state c.args.v.now c.requires.running c.requires.agrees in
    let s = g.D.Pm.state c.args.v.now.device in
    let file = (c.requires.asks found.0 found.1).is.file in
    let node = c.index-node.result.now in
    blocks_in_table found.0 c.args.v.now.parts s found.1 c.args.ask.now.ino file node
    (node_at found.0 c.args.v.now.parts s found.1 c.args.ask.now.ino file node c.index-node.ensures)

pub find_hindrance-requires-clause-few : goal.find_hindrance-requires-clause-few
find_hindrance-requires-clause-few g c =
    let found = running_disk g.D.Pm.state c.args.v.now c.requires.running c.requires.agrees in
    none_waits found.0 c.args.v.now.parts (g.D.Pm.state c.args.v.now.device) found.1

pub returns : goal.returns
returns g c = λ d op volume is.
    let s = g.D.Pm.state c.args.v.now.device in
    let node = c.index-node.result.now in
    is_in_the_way d c.args.v.now.parts s volume op c.args.ask.now is c.count_rows-lost.result
    (c.count_rows-lost.ensures.count d c.args.ask.now.ino (is_table d c.args.v.now.parts s volume)
    (places_are d c.args.v.now.parts s volume c.args.ask.now.ino is.file node
    (node_at d c.args.v.now.parts s volume c.args.ask.now.ino is.file node c.index-node.ensures)))
    c.find_hindrance.result c.find_hindrance.ensures
