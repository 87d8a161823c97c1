use Rattle.std.proofs.Common.{◌≡◌, [], map}
use Rattle.std.specs.Prelude.{take}
use Rattle.dedupe_daemon.specs.Ahead.{and_once, copy_of}
use Rattle.dedupe_daemon.proofs.copies.copy_pages.Given as goal

abbrev pub invariant-loop-page : goal.invariant-loop-page
invariant-loop-page g l = l.batch ≡ map (copy_of (g.D.Pm.state l.v.device).now) (and_once [] (take l.page-index l.pages))
