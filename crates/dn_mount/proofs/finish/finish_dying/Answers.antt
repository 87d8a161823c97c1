use Rattle.std.proofs.Common.{arith}
use Rattle.std.proofs.lemmas.Result.{err_from_is_err_and}
use Rattle.dn_mount.proofs.Finished.{part_begins, part_on, break_images, break_fault}
use Rattle.dn_mount.proofs.finish.finish_dying.Goals as goal

pub loop-v-init : goal.loop-v-init
loop-v-init g c = part_begins g.D.Pm.state g.F.Fingerprint.print c.args.v.now (g.met.D.Pm.agree c.args.v.now.device) c.requires.agrees c.requires.idle

pub loop-v-preserved : goal.loop-v-preserved
loop-v-preserved g c = part_on g.D.Pm.state g.F.Fingerprint.print c.args.v.now c.loop-v.v c.work_once.new.v c.loop-v.invariant
    (omega (arith, c.loop-v-test.true)) c.in_ok-work_once.ensures.done c.work_once.ensures.agrees

pub returns-in_err-work_once-clause-images : goal.returns-in_err-work_once-clause-images
returns-in_err-work_once-clause-images g c = break_images g.D.Pm.state g.F.Fingerprint.print c.args.v.now c.loop-v.v c.work_once.new.v
    c.loop-v.invariant c.work_once.ensures.images

pub returns-in_err-work_once-clause-fault : goal.returns-in_err-work_once-clause-fault
returns-in_err-work_once-clause-fault g c =
    let p = err_from_is_err_and c.from_residual.result c.from_residual.ensures.1 in
    rw (p.1, p.2) (break_fault g.D.Pm.state g.F.Fingerprint.print c.args.v.now c.loop-v.v c.work_once.new.v
    c.loop-v.invariant c.in_err-work_once.field-0.0 c.in_err-work_once.ensures.fault)
