use Rattle.std.proofs.Common.{◌≡◌, ◌∙◌, ap, map, refl, [], get_or}
use Rattle.std.specs.Prelude.{take}
use Rattle.std.proofs.lemmas.Option.{slice_get-get_or}
use Rattle.dedupe_daemon.specs.Ahead.{and_once, copy_of}
use Rattle.dedupe_daemon.proofs.AheadLists.{once_one}
use Rattle.dedupe_daemon.proofs.copies.copy_pages.Goals as goal

pub loop-page-preserved : goal.loop-page-preserved
loop-page-preserved g c =
    c.in_ok-push_copy.ensures (and_once [] (take c.loop-page.page-index c.args.pages.now)) c.loop-page.invariant
    ∙ ap (map (copy_of (g.D.Pm.state c.args.v.now.device).now))
    (once_one c.args.pages.now (and_once [] (take c.loop-page.page-index c.args.pages.now)) c.loop-page.page-index
    (get_or c.args.pages.now c.loop-page.page-index 0) [] refl (slice_get-get_or c.args.pages.now c.loop-page.page-index 0 c.loop-page-test.true))
