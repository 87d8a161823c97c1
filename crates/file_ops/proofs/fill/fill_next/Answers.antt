use Rattle.std.proofs.Common.{ℕ, ◌<◌, sym, subst, arith}
use Rattle.std.proofs.lemmas.List.{get_or_read}
use Rattle.file_content.proofs.Blocks.{blocks_in-file}
use Rattle.file_ops.proofs.Known.{node_read}
use Rattle.file_ops.proofs.Nexts.{found_next, in_inodes, file_of, op_fills, block_inside, place_small, units_there, stores_next}
use Rattle.file_ops.proofs.fill.fill_next.Goals as goal

pub index-node-requires : goal.index-node-requires
index-node-requires g c =
    let b = c.args.parts.now in
    let s = g.D.Pm.state c.args.device.now in
    let found = c.requires.volume in
    let n = found_next b c.args.who c.requires.fills c.in-Some.flight c.in-Data.change _ c.index.ensures c.in-Some.is c.in-Data.is in
    omega (arith, in_inodes found.0 b s c.args.who c.in-Some.flight c.in-Data.change found.1 n.0 c.in-Data.is, b.inodes.ok.0)

pub overflow_add-change : goal.overflow_add-change
overflow_add-change g c =
    let b = c.args.parts.now in
    let s = g.D.Pm.state c.args.device.now in
    let found = c.requires.volume in
    let f = c.in-Some.flight in
    let e = c.in-Data.change in
    let n = found_next b c.args.who c.requires.fills f e _ c.index.ensures c.in-Some.is c.in-Data.is in
    let node = node_read b.inodes.items f.ino c.index-node.result.now (in_inodes found.0 b s c.args.who f e found.1 n.0 c.in-Data.is)
    c.index-node.ensures in
    let small = place_small found.0 b s c.args.who f e found.1 n.0 c.in-Data.is n.1 c.index-node.result.now node in
    omega (arith, small)

pub index-requires-2 : goal.index-requires-2
index-requires-2 g c =
    let b = c.args.parts.now in
    let s = g.D.Pm.state c.args.device.now in
    let found = c.requires.volume in
    let f = c.in-Some.flight in
    let e = c.in-Data.change in
    let n = found_next b c.args.who c.requires.fills f e _ c.index.ensures c.in-Some.is c.in-Data.is in
    omega (arith, n.1, e.blocks.ok.0)

pub fill_by-requires-clause-blocks : goal.fill_by-requires-clause-blocks
fill_by-requires-clause-blocks g c =
    let b = c.args.parts.now in
    let s = g.D.Pm.state c.args.device.now in
    let found = c.requires.volume in
    let f = c.in-Some.flight in
    let e = c.in-Data.change in
    let n = found_next b c.args.who c.requires.fills f e _ c.index.ensures c.in-Some.is c.in-Data.is in
    let node = node_read b.inodes.items f.ino c.index-node.result.now (in_inodes found.0 b s c.args.who f e found.1 n.0 c.in-Data.is)
    c.index-node.ensures in
    blocks_in-file found.0 f.ino c.index-node.result.now.size c.index-node.result.now.map.map b.geometry
    (file_of found.0 b s c.args.who f e found.1 n.0 c.in-Data.is c.index-node.result.now node) found.1.fast.valid found.1.fast.geometry

pub fill_by-requires-clause-op : goal.fill_by-requires-clause-op
fill_by-requires-clause-op g c =
    let b = c.args.parts.now in
    let s = g.D.Pm.state c.args.device.now in
    let found = c.requires.volume in
    let f = c.in-Some.flight in
    let e = c.in-Data.change in
    let n = found_next b c.args.who c.requires.fills f e _ c.index.ensures c.in-Some.is c.in-Data.is in
    let node = node_read b.inodes.items f.ino c.index-node.result.now (in_inodes found.0 b s c.args.who f e found.1 n.0 c.in-Data.is)
    c.index-node.ensures in
    op_fills found.0 b s c.args.who f e found.1 n.0 c.in-Data.is c.index-node.result.now node n.1

pub fill_by-requires-clause-place : goal.fill_by-requires-clause-place
fill_by-requires-clause-place g c =
    let b = c.args.parts.now in
    let s = g.D.Pm.state c.args.device.now in
    let found = c.requires.volume in
    let f = c.in-Some.flight in
    let e = c.in-Data.change in
    let n = found_next b c.args.who c.requires.fills f e _ c.index.ensures c.in-Some.is c.in-Data.is in
    let node = node_read b.inodes.items f.ino c.index-node.result.now (in_inodes found.0 b s c.args.who f e found.1 n.0 c.in-Data.is)
    c.index-node.ensures in
    place_small found.0 b s c.args.who f e found.1 n.0 c.in-Data.is n.1 c.index-node.result.now node

pub fill_by-requires-clause-block : goal.fill_by-requires-clause-block
fill_by-requires-clause-block g c =
    let b = c.args.parts.now in
    let s = g.D.Pm.state c.args.device.now in
    let found = c.requires.volume in
    let f = c.in-Some.flight in
    let e = c.in-Data.change in
    let n = found_next b c.args.who c.requires.fills f e _ c.index.ensures c.in-Some.is c.in-Data.is in
    let inside = block_inside found.0 b s c.args.who f e found.1 n.0 c.in-Data.is n.1 in
    subst (λ (p : ℕ). p < b.geometry.pages) (sym (get_or_read e.blocks.items e.filled c.index-2.result.now n.1 c.index-2.ensures 0)) inside

pub fill_by-requires-clause-room : goal.fill_by-requires-clause-room
fill_by-requires-clause-room g c =
    let b = c.args.parts.now in
    let s = g.D.Pm.state c.args.device.now in
    let found = c.requires.volume in
    let f = c.in-Some.flight in
    let e = c.in-Data.change in
    let n = found_next b c.args.who c.requires.fills f e _ c.index.ensures c.in-Some.is c.in-Data.is in
    units_there found.0 b s c.args.who f e found.1 n.0 c.in-Data.is n.1

pub returns : goal.returns
returns g c =
    let b = c.args.parts.now in
    let s = g.D.Pm.state c.args.device.now in
    let found = c.requires.volume in
    let f = c.in-Some.flight in
    let e = c.in-Data.change in
    let n = found_next b c.args.who c.requires.fills f e _ c.index.ensures c.in-Some.is c.in-Data.is in
    let node = node_read b.inodes.items f.ino c.index-node.result.now (in_inodes found.0 b s c.args.who f e found.1 n.0 c.in-Data.is)
    c.index-node.ensures in
    stores_next b s (g.D.Pm.state c.fill_by.new.device) c.args.who f e n.0 c.in-Data.is c.index-node.result.now node c.index-2.result.now
    (get_or_read e.blocks.items e.filled c.index-2.result.now n.1 c.index-2.ensures 0) c.fill_by.ensures.filled
    c.fill_by.ensures.only c.fill_by.ensures.keeps c.fill_by.ensures.flushes c.fill_by.ensures.spare
    c.fill_by.ensures.faults
