use Rattle.file_scan.proofs.Naming.{named-none, named-next, named-all}
use Rattle.file_scan.proofs.names.index_names.Goals as goal

pub loop-i-init : goal.loop-i-init
loop-i-init c = named-none c.args.items.now _ c.new-names.ensures

pub loop-i-preserved : goal.loop-i-preserved
loop-i-preserved c = named-next c.args.items.now c.loop-i.i c.index-items-i.result c.loop-i.names.map c.add_name.new.names.map c.loop-i-test.true
    c.index-items-i.is c.loop-i.invariant c.in_ok-add_name.ensures

pub returns : goal.returns
returns c = named-all c.args.items.now c.loop-i.i c.loop-i.names.map c.loop-i-test.false c.loop-i.invariant
