use Rattle.std.proofs.Common.{length, refl, sym, ◌∙◌, arith}
use Rattle.std.proofs.lemmas.Option.{slice_get_read}
use Rattle.dn_volume.proofs.Tables.{is_table, running_disk}
use Rattle.dedupe_daemon.proofs.PlaceFound.{to_remap, idx_small, row_slot_small, node_there, ino_in, kept_at, place_found, no_mapping}
use Rattle.dedupe_daemon.proofs.remap.place_to_remap.Goals as goal

pub overflow_add-idx : goal.overflow_add-idx
overflow_add-idx g c =
    let S = g.D.Pm.state in
    let found = running_disk S c.args.v.now c.requires.running c.requires.agrees in
    omega (arith, idx_small found.0 c.args.v.now.parts (S c.args.v.now.device) found.1 c.args.sharing c.requires.begun c.args.slot c.requires.step)

pub row_at-requires-clause-table : goal.row_at-requires-clause-table
row_at-requires-clause-table g c =
    let S = g.D.Pm.state in
    let found = running_disk S c.args.v.now c.requires.running c.requires.agrees in
    record { disk = found.0; is = is_table found.0 c.args.v.now.parts (S c.args.v.now.device) found.1 }

pub row_at-requires-clause-slot : goal.row_at-requires-clause-slot
row_at-requires-clause-slot g c =
    let S = g.D.Pm.state in
    let found = running_disk S c.args.v.now c.requires.running c.requires.agrees in
    row_slot_small found.0 c.args.v.now.parts (S c.args.v.now.device) found.1 c.args.sharing c.requires.begun c.args.slot c.requires.step

pub unreachable-requires : goal.unreachable-requires
unreachable-requires g c =
    let S = g.D.Pm.state in
    let found = running_disk S c.args.v.now c.requires.running c.requires.agrees in
    let has = to_remap found.0 c.args.v.now.parts (S c.args.v.now.device) found.1 c.args.sharing c.requires.begun c.args.slot c.requires.step in
    c.in_default.ensures.none found.0 (is_table found.0 c.args.v.now.parts (S c.args.v.now.device) found.1) has.row has.at_slot.there
    has.at_slot.slot_is

pub index-node-requires : goal.index-node-requires
index-node-requires g c =
    let S = g.D.Pm.state in
    let found = running_disk S c.args.v.now c.requires.running c.requires.agrees in
    let lt = node_there found.0 c.args.v.now.parts (S c.args.v.now.device) found.1 c.args.sharing c.requires.begun c.args.slot c.requires.step in
    omega (arith, lt, c.args.v.now.parts.inodes.ok.0)

pub unreachable-requires-in_default-get : goal.unreachable-requires-in_default-get
unreachable-requires-in_default-get g c =
    let S = g.D.Pm.state in
    let found = running_disk S c.args.v.now c.requires.running c.requires.agrees in
    let lt = node_there found.0 c.args.v.now.parts (S c.args.v.now.device) found.1 c.args.sharing c.requires.begun c.args.slot c.requires.step in
    let there = slice_get_read c.args.v.now.parts.inodes.items (length c.args.v.now.parts.inodes.items) c.args.sharing.work.ino
    c.index-node.result.now refl lt c.index-node.ensures in
    no_mapping _ _ (sym c.get.ensures ∙ c.in_default-get.is) (kept_at found.0 c.args.v.now.parts (S c.args.v.now.device) found.1 c.args.sharing
    c.requires.begun c.args.slot c.requires.step c.index-node.result.now there)

pub read_field-requires-clause-ino : goal.read_field-requires-clause-ino
read_field-requires-clause-ino g c =
    let S = g.D.Pm.state in
    let found = running_disk S c.args.v.now c.requires.running c.requires.agrees in
    ino_in found.0 c.args.v.now.parts (S c.args.v.now.device) found.1 c.args.sharing c.requires.begun c.args.slot c.requires.step

pub returns : goal.returns
returns g c = λ d v.
    let S = g.D.Pm.state in
    let lt = node_there d c.args.v.now.parts (S c.args.v.now.device) v c.args.sharing c.requires.begun c.args.slot c.requires.step in
    let there = slice_get_read c.args.v.now.parts.inodes.items (length c.args.v.now.parts.inodes.items) c.args.sharing.work.ino
    c.index-node.result.now refl lt c.index-node.ensures in
    place_found d c.args.v.now.parts (S c.args.v.now.device) v c.args.sharing c.requires.begun c.args.slot c.requires.step c.index-node.result.now
    there c.in-Some-get.mapping (sym c.get.ensures ∙ c.in-Some-get.is) _
    (c.in-Some.ensures.found d (is_table d c.args.v.now.parts (S c.args.v.now.device) v)) c.read_field.result c.read_field.ensures
