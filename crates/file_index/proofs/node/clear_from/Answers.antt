use Rattle.std.proofs.Common.{arith}
use Rattle.file_index.specs.Radix.{cells}
use Rattle.file_index.proofs.PageMaps.{clears_none, clears_on, clears_all, cells_long}
use Rattle.file_index.proofs.node.clear_from.Goals as goal

pub loop-place-init : goal.loop-place-init
loop-place-init c = (omega arith, clears_none c.args.from (cells c.args.nodes.now.items))

pub clear_next-place-requires-clause-whole : goal.clear_next-place-requires-clause-whole
clear_next-place-requires-clause-whole c = c.loop-place.invariant.1.whole c.requires.whole

pub clear_next-place-requires-clause-in_root : goal.clear_next-place-requires-clause-in_root
clear_next-place-requires-clause-in_root c =
    let old = c.args.nodes.now in
    let nodes = c.loop-place.nodes in
    omega (
      arith,
      c.loop-place.invariant.1.long,
      cells_long old.items,
      old.ok.0,
      cells_long nodes.items,
      nodes.ok.0,
      c.len-end.ensures,
      c.loop-place-test.true,
    )

pub clear_next-place-requires-clause-few : goal.clear_next-place-requires-clause-few
clear_next-place-requires-clause-few c =
    let old = c.args.nodes.now in
    let nodes = c.loop-place.nodes in
    omega (arith, c.loop-place.invariant.1.long, cells_long old.items, old.ok.0, cells_long nodes.items, nodes.ok.0, c.requires.few)

pub loop-place-preserved : goal.loop-place-preserved
loop-place-preserved c =
    let step = c.clear_next-place.ensures in (
      omega (arith, c.loop-place.invariant.0, step.more),
      clears_on c.args.from c.loop-place.place c.clear_next-place.result (cells c.args.nodes.now.items) (cells c.loop-place.nodes.items)
          (cells c.clear_next-place.new.nodes.items)
          c.loop-place.invariant.0 c.loop-place.invariant.1 step.cells,
    )

pub returns : goal.returns
returns c =
    let old = c.args.nodes.now in
    clears_all c.args.from c.loop-place.place (cells old.items) (cells c.loop-place.nodes.items) c.loop-place.invariant.1
    (omega (arith, cells_long old.items, old.ok.0, c.len-end.ensures, c.loop-place-test.false))
