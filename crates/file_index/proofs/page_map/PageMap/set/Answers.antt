use Rattle.std.proofs.Common.{◌/◌, Some, arith}
use Rattle.file_index.specs.Radix.{cells}
use Rattle.file_index.proofs.RunCounts.{set_balance, runs-few}
use Rattle.file_index.proofs.PageMaps.{cells_long, opened_long, root_long, spare_there, set_puts, radix-written}
use Rattle.file_index.proofs.page_map.PageMap.set.Goals as goal

pub open_node-requires-clause-at : goal.open_node-requires-clause-at
open_node-requires-clause-at c =
    let nodes = c.self.inside.nodes in
    let room = rw (← c.self.view_is) at c.requires.room in
    let long = root_long (cells nodes.items) (cells c.self.inside.spare.items) c.args.idx c.self.invariant.radix room in
    omega (arith, long, cells_long nodes.items, nodes.ok.0, c.requires.below)

pub open_node-requires-clause-room : goal.open_node-requires-clause-room
open_node-requires-clause-room c = λ none.
    let nodes = c.self.inside.nodes in
    let spare = c.self.inside.spare in
    let room = rw (← c.self.view_is) at c.requires.room in
    let some = spare_there (cells nodes.items) (cells spare.items) c.args.idx c.self.invariant.radix room c.requires.below none in
    omega (arith, some, cells_long spare.items, spare.ok.0)

pub overflow_add-self : goal.overflow_add-self
overflow_add-self c =
    let few = runs-few (cells c.self.inside.nodes.items) (cells c.self.inside.spare.items) c.self.inside.runs c.self.invariant in
    omega (arith, few, c.begins_near-after.ensures.few)

pub overflow_sub-self : goal.overflow_sub-self
overflow_sub-self c =
    (set_balance (cells c.self.inside.nodes.items) (cells c.self.inside.spare.items) c.self.inside.runs c.self.invariant c.args.idx
    (cells c.open_node.new.nodes.items) (cells c.open_node.new.spare.items) c.args.mapping c.begins_near-before.result
    c.begins_near-after.result c.requires.below c.open_node.ensures (rw c.deref.ensures.value at c.begins_near-before.ensures.is)
    (rw (c.deref-2.ensures.value, c.write_cell.ensures) at c.begins_near-after.ensures.is)).0

pub invariant_of-self : goal.invariant_of-self
invariant_of-self c =
    let opens = c.open_node.ensures in
    let mid = cells c.open_node.new.nodes.items in
    let spare = cells c.open_node.new.spare.items in
    let long = opened_long (c.args.idx / 64) (cells c.self.inside.nodes.items) mid (cells c.self.inside.spare.items) spare opens in
    let balance = set_balance (cells c.self.inside.nodes.items) (cells c.self.inside.spare.items) c.self.inside.runs c.self.invariant c.args.idx
    (cells c.open_node.new.nodes.items) (cells c.open_node.new.spare.items) c.args.mapping c.begins_near-before.result
    c.begins_near-after.result c.requires.below c.open_node.ensures (rw c.deref.ensures.value at c.begins_near-before.ensures.is)
    (rw (c.deref-2.ensures.value, c.write_cell.ensures) at c.begins_near-after.ensures.is) in
    rw c.write_cell.ensures (record {
      radix = radix-written mid spare c.args.idx (Some c.args.mapping) (omega (arith, long, c.requires.below)) opens.valid;
      counted = balance.1;
    })

pub returns : goal.returns
returns c =
    let room = rw (← c.self.view_is) at c.requires.room in
    rw (c.write_cell.ensures, ← c.self.view_is)
    (set_puts (cells c.self.inside.nodes.items) (cells c.self.inside.spare.items) c.args.idx c.self.invariant.radix room
    (cells c.open_node.new.nodes.items) (cells c.open_node.new.spare.items) c.args.mapping c.requires.below c.open_node.ensures)
