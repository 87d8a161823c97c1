use Rattle.std.proofs.Common.{◌≡◌, ◌++◌}
use Rattle.std.specs.Prelude.{filter_map}
use Rattle.std.specs.List.{range_with_len}
use Rattle.std.specs.FinMap.{get}
use Rattle.dedupe_daemon.specs.Ahead.{page_by}
use Rattle.dedupe_daemon.proofs.ahead.push_item.Given as goal

abbrev pub invariant-loop-k : goal.invariant-loop-k
invariant-loop-k l = l.pages.items ≡ l.initial.pages.items
    ++ filter_map (λ idx. page_by l.item.work.slot (get l.map.map idx)) (range_with_len l.item.first l.k)
