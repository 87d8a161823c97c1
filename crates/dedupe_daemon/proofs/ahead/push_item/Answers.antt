use Rattle.std.specs.FinMap.{get}
use Rattle.dedupe_daemon.specs.Ahead.{page_by}
use Rattle.dedupe_daemon.proofs.AheadLists.{found_one}
use Rattle.dedupe_daemon.proofs.ahead.push_item.Goals as goal

pub loop-k-preserved : goal.loop-k-preserved
loop-k-preserved c = found_one (λ idx. page_by c.args.item.work.slot (get c.args.map.now.map idx)) c.args.item.first c.loop-k.k
    c.args.pages.now.items c.loop-k.pages.items c.push_place.new.pages.items c.loop-k.invariant c.in_ok-push_place.ensures
