use Rattle.std.proofs.Common.{ℕ, ◌<◌, length, sym, ◌∙◌, ap, subst, arith}
use Rattle.std.specs.Prelude.{slice_index}
use Rattle.dn_volume.proofs.Tables.{running_disk}
use Rattle.data_begins.proofs.LiveFiles.{in_nodes, in_geometry, node_at, tail_within, tail_read}
use Rattle.size_ops.proofs.Planned.{file, plan_is, size_named}
use Rattle.size_ops.proofs.plan.plan_cut.Goals as goal

pub index-requires : goal.index-requires
index-requires g c =
    let b = c.args.v.now.parts in
    let s = g.D.Pm.state c.args.v.now.device in
    let found = running_disk g.D.Pm.state c.args.v.now c.requires.running c.requires.agrees in
    let live = file found.0 b s found.1 c.args.op.now c.args.ino (c.requires.cut found.0 found.1) in
    omega (arith, in_nodes found.0 b s found.1 c.args.ino live, b.inodes.ok.0)

pub inode_word-requires-clause-ino : goal.inode_word-requires-clause-ino
inode_word-requires-clause-ino g c =
    let b = c.args.v.now.parts in
    let s = g.D.Pm.state c.args.v.now.device in
    let found = running_disk g.D.Pm.state c.args.v.now c.requires.running c.requires.agrees in
    let live = file found.0 b s found.1 c.args.op.now c.args.ino (c.requires.cut found.0 found.1) in
    in_geometry found.0 b s found.1 c.args.ino live

pub load-tail-requires : goal.load-tail-requires
load-tail-requires g c =
    let b = c.args.v.now.parts in
    let s = g.D.Pm.state c.args.v.now.device in
    let found = running_disk g.D.Pm.state c.args.v.now c.requires.running c.requires.agrees in
    let live = file found.0 b s found.1 c.args.op.now c.args.ino (c.requires.cut found.0 found.1) in
    subst (λ (a : ℕ). a < length s.now) (sym c.inode_word.ensures) (tail_within found.0 b s found.1 c.args.ino live)

pub returns : goal.returns
returns g c = λ d v.
    let b = c.args.v.now.parts in
    let s = g.D.Pm.state c.args.v.now.device in
    let cut = c.requires.cut d v in
    let live = file d b s v c.args.op.now c.args.ino cut in
    plan_is d b s v c.args.op.now c.args.ino cut c.in-Cut.size c.pages_to_fill-pages.result c.pages_for_slots.result c.first_lost.result
    c.index.result.now c.load-tail.result (size_named c.args.op.now cut.name c.in-Cut.name cut.to c.in-Cut.size cut.op_is c.in-Cut.is)
    (node_at d b s v c.args.ino live c.index.result.now c.index.ensures)
    (c.load-tail.ensures ∙ ap (slice_index s.now) c.inode_word.ensures ∙ tail_read d b s v c.args.ino live)
    c.pages_to_fill-pages.ensures.places c.pages_for_slots.ensures.pages c.first_lost.ensures
