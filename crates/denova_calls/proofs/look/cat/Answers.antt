use Rattle.denova_calls.proofs.Looks.{open_agrees, open_running, cat_ends}
use Rattle.denova_calls.proofs.look.cat.Goals as goal

pub shown-ending-requires-clause-agrees : goal.shown-ending-requires-clause-agrees
shown-ending-requires-clause-agrees g c =
    open_agrees g.D.Pm.state g.F.Fingerprint.print (g.D.Pm.state c.args.device) c.in-Ok.v c.in-Ok.ensures.open

pub shown-ending-requires-clause-running : goal.shown-ending-requires-clause-running
shown-ending-requires-clause-running g c =
    open_running g.D.Pm.state g.F.Fingerprint.print (g.D.Pm.state c.args.device) c.in-Ok.v c.in-Ok.ensures.open

pub returns-in-Ok-clause-ends : goal.returns-in-Ok-clause-ends
returns-in-Ok-clause-ends g c = rw c.into_device.ensures
    (cat_ends g.D.Pm.state g.F.Fingerprint.print (g.D.Pm.state c.args.device) c.in-Ok.v c.in-Ok.ensures.open c.args.name.now
    c.shown-ending.result c.shown-ending.ensures)
