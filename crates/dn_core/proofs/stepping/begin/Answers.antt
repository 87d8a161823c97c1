use Rattle.dn_core.proofs.Served.{begin_refused}
use Rattle.dn_core.proofs.stepping.begin.Goals as goal

pub returns-else-may_begin-clause-event : goal.returns-else-may_begin-clause-event
returns-else-may_begin-clause-event g c =
    begin_refused g.D.Pm.state g.F.Fingerprint.print c.args.who c.args.op c.args.v.now c.requires.running
    (λ may. absurd (let is = c.may_begin.ensures.1 may in let no = c.if-may_begin.false in cc))
