use Rattle.std.proofs.Common.{◌-◌, length, refl}
use Rattle.clean_items.proofs.NamesBack.{back-none, back-next}
use Rattle.clean_items.proofs.names.cleaned_names.Goals as goal

pub loop-k-init : goal.loop-k-init
loop-k-init c = back-none c.args.items.now c.new-adds.result.items c.new-met.result.map c.new-adds.ensures.items c.new-met.ensures

pub loop-k-preserved : goal.loop-k-preserved
loop-k-preserved c = back-next c.args.items.now c.loop-k.k (length c.args.items.now - 1 - c.loop-k.k) c.index-items-items.result c.loop-k.adds.items
    c.go_back.new.adds.items c.loop-k.met.map c.go_back.new.met.map c.loop-k-test.true refl c.index-items-items.is c.loop-k.invariant
    c.in_ok-go_back.ensures
