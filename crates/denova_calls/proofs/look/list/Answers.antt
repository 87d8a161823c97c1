use Rattle.denova_calls.proofs.Looks.{open_agrees, open_running, list_ends}
use Rattle.denova_calls.proofs.look.list.Goals as goal

pub listed-ending-requires-clause-agrees : goal.listed-ending-requires-clause-agrees
listed-ending-requires-clause-agrees g c =
    open_agrees g.D.Pm.state g.F.Fingerprint.print (g.D.Pm.state c.args.device) c.in-Ok.v c.in-Ok.ensures.open

pub listed-ending-requires-clause-running : goal.listed-ending-requires-clause-running
listed-ending-requires-clause-running g c =
    open_running g.D.Pm.state g.F.Fingerprint.print (g.D.Pm.state c.args.device) c.in-Ok.v c.in-Ok.ensures.open

pub returns-in-Ok-clause-ends : goal.returns-in-Ok-clause-ends
returns-in-Ok-clause-ends g c = rw c.into_device.ensures
    (list_ends g.D.Pm.state g.F.Fingerprint.print (g.D.Pm.state c.args.device) c.in-Ok.v c.in-Ok.ensures.open c.listed-ending.result
    c.listed-ending.ensures)
