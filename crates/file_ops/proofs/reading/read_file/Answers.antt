use Rattle.std.proofs.Common.{sym, ◌∙◌, arith}
use Rattle.dn_volume.proofs.Tables.{running_disk}
use Rattle.data_begins.proofs.LiveFiles.{named_file, in_nodes, node_at, file_is, blocks_in}
use Rattle.file_ops.proofs.Replied.{read_found}
use Rattle.file_ops.proofs.reading.read_file.Goals as goal

pub index-node-requires : goal.index-node-requires
index-node-requires g c =
    let found = running_disk g.D.Pm.state c.args.v.now c.requires.running c.requires.agrees in
    let s = g.D.Pm.state c.args.v.now.device in
    let file = named_file found.0 c.args.v.now.parts s found.1 c.args.name.now c.args.ino
    (sym (found.1.names.leads c.args.name.now) ∙ c.requires.found.leads) in
    omega (arith, in_nodes found.0 c.args.v.now.parts s found.1 c.args.ino file, c.args.v.now.parts.inodes.ok.0)

pub read_bytes-requires-clause-blocks : goal.read_bytes-requires-clause-blocks
read_bytes-requires-clause-blocks g c =
    let found = running_disk g.D.Pm.state c.args.v.now c.requires.running c.requires.agrees in
    let s = g.D.Pm.state c.args.v.now.device in
    let file = named_file found.0 c.args.v.now.parts s found.1 c.args.name.now c.args.ino
    (sym (found.1.names.leads c.args.name.now) ∙ c.requires.found.leads) in
    let node = c.index-node.result.now in
    blocks_in found.0 c.args.v.now.parts s found.1 c.args.ino file node
    (node_at found.0 c.args.v.now.parts s found.1 c.args.ino file node c.index-node.ensures)

pub returns : goal.returns
returns g c = λ d volume.
    let s = g.D.Pm.state c.args.v.now.device in
    let file = named_file d c.args.v.now.parts s volume c.args.name.now c.args.ino
    (sym (volume.names.leads c.args.name.now) ∙ c.requires.found.leads) in
    let node = c.index-node.result.now in
    read_found d c.args.v.now.parts s volume c.args.name.now c.args.at c.args.length c.args.ino c.of.result c.requires.found c.requires.few
    (c.of.ensures ∙ c.in_ok-found.ensures d c.args.ino
    (file_is d c.args.v.now.parts s volume c.args.ino file node
    (node_at d c.args.v.now.parts s volume c.args.ino file node c.index-node.ensures))
    volume.fast.valid volume.fast.geometry volume.fast.stands)
