use Rattle.dedupe_daemon.proofs.AheadLists.{copy_is}
use Rattle.dedupe_daemon.proofs.copies.copy_page.Goals as goal

pub returns : goal.returns
returns g c = copy_is (g.D.Pm.state c.args.device.now).now c.args.page c.in_ok-bytes.bytes.items c.new.result c.in_ok-bytes.ensures c.new.ensures
