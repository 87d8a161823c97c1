use Rattle.std.proofs.Common.{◌≡◌, ◌++◌}
use Rattle.std.specs.Prelude.{flat_map, take}
use Rattle.dedupe_daemon.specs.Ahead.{work_pages}
use Rattle.dedupe_daemon.proofs.ahead.push_queue.Given as goal

abbrev pub invariant-loop-n : goal.invariant-loop-n
invariant-loop-n g l = l.pages.items ≡ l.initial.pages.items
    ++ flat_map (work_pages (g.D.Pm.state l.v.device).now l.v.parts.inodes.items) (take l.n l.v.parts.queue.items)
