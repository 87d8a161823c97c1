use Rattle.dn_volume.proofs.Tables.{running_disk}
use Rattle.data_begins.proofs.LiveFiles.{node_at, file_is, blocks_in}
use Rattle.file_content.proofs.Appending.{if_ok_map}
use Rattle.file_looks.proofs.reading.read_piece.Goals as goal

pub read_bytes-requires-clause-blocks : goal.read_bytes-requires-clause-blocks
read_bytes-requires-clause-blocks g c =
    let b = c.args.v.now.parts in
    let s = g.D.Pm.state c.args.v.now.device in
    let of = running_disk g.D.Pm.state c.args.v.now c.requires.running c.requires.agrees in
    let file = c.requires.file of.0 of.1 in
    let node = c.index-node.result.now in
    blocks_in of.0 b s of.1 c.args.ino file node (node_at of.0 b s of.1 c.args.ino file node c.index-node.ensures)

pub returns : goal.returns
returns g c = if_ok_map c.read_bytes.result _ _ (λ found read d volume.
    let b = c.args.v.now.parts in
    let s = g.D.Pm.state c.args.v.now.device in
    let file = c.requires.file d volume in
    let node = c.index-node.result.now in
    read d c.args.ino (file_is d b s volume c.args.ino file node (node_at d b s volume c.args.ino file node c.index-node.ensures))
    volume.fast.valid volume.fast.geometry volume.fast.stands) c.read_bytes.ensures
