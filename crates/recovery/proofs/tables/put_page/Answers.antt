use Rattle.std.proofs.Common.{◌*◌}
use Rattle.pm_device.proofs.Only.{stores_only-none}
use Rattle.recovery.proofs.Making.{all_flushed-run}
use Rattle.recovery.proofs.tables.put_page.Goals as goal

pub returns-then-has_page-clause-only : goal.returns-then-has_page-clause-only
returns-then-has_page-clause-only g c = stores_only-none _ (g.D.Pm.state c.args.device.now) (g.met.D.Pm.agree c.args.device.now)

pub returns-clause-flushed : goal.returns-clause-flushed
returns-clause-flushed g c =
    let S = g.D.Pm.state in
    all_flushed-run _ (512 * c.args.page) 512 (S c.args.device.now) (S c.fill_page.new.device) c.fill_page.ensures.holds.flushed
    c.fill_page.ensures.keeps c.fill_page.ensures.only.words c.requires.flushed
