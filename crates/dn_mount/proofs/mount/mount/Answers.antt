use Rattle.std.proofs.lemmas.Result.{IfOk-weaker, IfErr-weaker}
use Rattle.dn_mount.proofs.Opened.{settled_images, opened_idle, opened_waits, opened_agrees, mounted_now, mounted_then, images_then, fault_then, on_ok_always}
use Rattle.dn_mount.proofs.mount.mount.Goals as goal

pub returns-in-Err-clause-images : goal.returns-in-Err-clause-images
returns-in-Err-clause-images g c =
    let S = g.D.Pm.state in
    λ d stood. settled_images g.F.Fingerprint.print d (S c.args.device) (S c.in-Err.back.1) (c.in-Err.ensures.images d stood)

pub returns-then-v-eq0-clause-mounted : goal.returns-then-v-eq0-clause-mounted
returns-then-v-eq0-clause-mounted g c =
    λ d stood. mounted_now g.D.Pm.state g.F.Fingerprint.print d c.in-Ok.v (c.in-Ok.ensures.opened d stood) (g.met.D.Pm.agree c.in-Ok.v.device)
    c.if-v-eq0.true

pub returns-then-v-eq0-clause-images : goal.returns-then-v-eq0-clause-images
returns-then-v-eq0-clause-images g c =
    let S = g.D.Pm.state in
    λ d stood. settled_images g.F.Fingerprint.print d (S c.args.device) (S c.in-Ok.v.device) (c.in-Ok.ensures.images d stood)

pub reopen-requires-clause-agrees : goal.reopen-requires-clause-agrees
reopen-requires-clause-agrees g c =
    let sound = c.in-Ok.ensures.sound in
    opened_agrees g.D.Pm.state g.F.Fingerprint.print sound.disk c.in-Ok.v (c.in-Ok.ensures.opened sound.disk sound.stands_for)

pub reopen-requires-clause-idle : goal.reopen-requires-clause-idle
reopen-requires-clause-idle g c =
    let sound = c.in-Ok.ensures.sound in
    opened_idle sound.disk c.in-Ok.v.parts (g.D.Pm.state c.in-Ok.v.device) (c.in-Ok.ensures.opened sound.disk sound.stands_for)

pub returns-clause-sound : goal.returns-clause-sound
returns-clause-sound g c = on_ok_always c.reopen.result _ c.in-Ok.ensures.sound

pub returns-clause-mounted : goal.returns-clause-mounted
returns-clause-mounted g c =
    let S = g.D.Pm.state in
    IfOk-weaker c.reopen.result _ _ (λ w reopened d stood.
    mounted_then S g.F.Fingerprint.print d (S c.args.device) c.in-Ok.v (c.in-Ok.ensures.opened d stood) w reopened (g.met.D.Pm.agree w.device))
    c.reopen.ensures.reopened

pub returns-clause-images : goal.returns-clause-images
returns-clause-images g c =
    let S = g.D.Pm.state in
    λ d stood. images_then S g.F.Fingerprint.print d (S c.args.device) c.in-Ok.v (c.in-Ok.ensures.opened d stood) (c.in-Ok.ensures.images d stood) _
    c.reopen.ensures.images

pub returns-clause-quiet : goal.returns-clause-quiet
returns-clause-quiet g c =
    λ d stood clean none. absurd (c.if-v-eq0.false
    (opened_waits d c.in-Ok.v.parts (g.D.Pm.state c.in-Ok.v.device) (c.in-Ok.ensures.opened d stood) none))

pub returns-clause-fault : goal.returns-clause-fault
returns-clause-fault g c =
    let S = g.D.Pm.state in
    IfErr-weaker c.reopen.result _ _ (λ back is. fault_then (S c.args.device) (S c.in-Ok.v.device) (S back.1) c.in-Ok.ensures.faults back.0 is)
    c.reopen.ensures.fault

pub returns-then-v-eq0-clause-quiet : goal.returns-then-v-eq0-clause-quiet
returns-then-v-eq0-clause-quiet g c = λ d stood clean none. c.in-Ok.ensures.quiet d stood clean
