use Rattle.std.proofs.Common.{refl}
use Rattle.file_scan.proofs.Indexing.{indexed-none, indexed-next, indexed-all}
use Rattle.file_scan.proofs.index.index_items.Goals as goal

pub loop-i-init : goal.loop-i-init
loop-i-init c = indexed-none c.args.items.now _ refl c.new.ensures

pub loop-i-preserved : goal.loop-i-preserved
loop-i-preserved c = indexed-next c.args.items.now c.loop-i.i c.index-items-i.result c.loop-i.index c.add_item.new.index c.loop-i-test.true
    c.index-items-i.is c.loop-i.invariant c.in_ok-add_item.ensures

pub returns : goal.returns
returns c = indexed-all c.args.items.now c.loop-i.i c.loop-i.index c.loop-i-test.false c.loop-i.invariant
