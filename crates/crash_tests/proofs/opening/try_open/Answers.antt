use Rattle.crash_tests.proofs.Opened.{fresh_if_ok}
use Rattle.crash_tests.proofs.opening.try_open.Goals as goal

pub returns : goal.returns
returns g c = fresh_if_ok _ g.F.Fingerprint.print _ c.mount.result c.mount.ensures.sound c.mount.ensures.mounted
