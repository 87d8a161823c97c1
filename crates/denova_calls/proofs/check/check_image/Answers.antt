use Rattle.denova_calls.proofs.Checked.{check_ends}
use Rattle.denova_calls.proofs.check.check_image.Goals as goal

pub returns-in-Ok : goal.returns-in-Ok
returns-in-Ok g c = check_ends (g.D.Pm.state c.args.device.now).now c.in-Ok.finding c.ending_of.result c.in-Ok.ensures c.ending_of.ensures
