use Rattle.dn_core.proofs.Served.{advance_served, advance_refused}
use Rattle.dn_core.proofs.stepping.advance.Goals as goal

pub returns-then-in_flight-clause-event : goal.returns-then-in_flight-clause-event
returns-then-in_flight-clause-event g c =
    advance_served g.D.Pm.state g.F.Fingerprint.print c.args.who c.args.v.now c.advance_by.new.v c.advance_by.result c.requires.running
    (c.in_flight.ensures.0 c.if-in_flight.true) c.advance_by.ensures.event

pub returns-else-in_flight-clause-event : goal.returns-else-in_flight-clause-event
returns-else-in_flight-clause-event g c =
    advance_refused g.D.Pm.state g.F.Fingerprint.print c.args.who c.args.v.now c.requires.running
    (λ some. absurd (let is = c.in_flight.ensures.1 some in let no = c.if-in_flight.false in cc))
