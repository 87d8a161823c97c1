use Rattle.dn_core.proofs.Served.{opens_instead}
use Rattle.dn_core.proofs.stepping.begin_by.Goals as goal

pub returns-in-Released-clause-event : goal.returns-in-Released-clause-event
returns-in-Released-clause-event g c d volume =
    let was = c.in-Released.ensures.event d volume in
    opens_instead g.D.Pm.state g.F.Fingerprint.print c.args.who c.args.op c.args.v.now c.begin_served.new.v c.release_instead.new.v d
    c.in-Released.waiting c.release_instead.result was.0 was.1 (c.release_instead.ensures.event d was.0.volume)
