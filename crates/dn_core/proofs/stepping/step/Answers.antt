use Rattle.dn_core.proofs.Sounds.{steps_stay_sound}
use Rattle.dn_core.proofs.Leaves.{steps_leave_images}
use Rattle.dn_core.proofs.Adding.{steps_add, records_none, records_next}
use Rattle.dn_core.proofs.Promised.{headline_holds}
use Rattle.dn_core.proofs.stepping.step.Goals as goal

pub returns-clause-sound : goal.returns-clause-sound
returns-clause-sound g c base sound =
    steps_stay_sound g.D.Pm.state g.met.D.Pm.agree g.F.Fingerprint.print base c.args.event c.args.v.now c.step_once.new.v c.step_once.result
    c.step_once.ensures.event sound

pub returns-clause-images : goal.returns-clause-images
returns-clause-images g c d volume =
    steps_leave_images g.D.Pm.state g.met.D.Pm.agree g.F.Fingerprint.print c.args.event c.args.v.now c.step_once.new.v d c.step_once.result volume
    c.step_once.ensures.event

pub returns-clause-history : goal.returns-clause-history
returns-clause-history g c =
    records_next c.args.v.now c.args.v.now c.step_once.new.v _ _ c.args.event c.step_once.result (records_none c.args.v.now)
    (steps_add g.D.Pm.state g.F.Fingerprint.print c.args.event c.args.v.now c.step_once.new.v c.step_once.result c.requires.agrees
    c.step_once.ensures.event)

pub returns-clause-headline : goal.returns-clause-headline
returns-clause-headline g c base u events outcomes sound empty run running =
    headline_holds g.D.Pm.state g.met.D.Pm.agree g.F.Fingerprint.print base u c.args.v.now c.step_once.new.v events outcomes c.args.event
    c.step_once.result sound empty run running c.step_once.ensures.event
