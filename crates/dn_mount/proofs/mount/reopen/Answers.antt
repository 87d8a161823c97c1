use Rattle.std.proofs.lemmas.Result.{IfOk-weaker, IfErr-weaker}
use Rattle.dn_mount.proofs.Opened.{finished_still, reopened_from, reopened_images, reopened_fault}
use Rattle.dn_mount.proofs.mount.reopen.Goals as goal

pub open-requires : goal.open-requires
open-requires g c = record {
  still = finished_still g.D.Pm.state g.F.Fingerprint.print c.args.v c.finish_dying.new.v c.requires.agrees c.requires.idle c.in-Ok.ensures.done
      c.in-Ok.ensures.idle c.in-Ok.ensures.none_waits c.finish_dying.ensures.faults;
}

pub returns-in-Ok-clause-reopened : goal.returns-in-Ok-clause-reopened
returns-in-Ok-clause-reopened g c =
    let S = g.D.Pm.state in
    IfOk-weaker c.open.result _ _ (λ w opened d volume.
    reopened_from S g.F.Fingerprint.print c.args.v c.finish_dying.new.v c.requires.agrees c.requires.idle c.in-Ok.ensures.done
    c.in-Ok.ensures.idle c.in-Ok.ensures.none_waits c.finish_dying.ensures.faults d volume w.parts (S w.device) opened) c.open.ensures.opened

pub returns-in-Ok-clause-images : goal.returns-in-Ok-clause-images
returns-in-Ok-clause-images g c =
    λ d volume. reopened_images g.D.Pm.state g.F.Fingerprint.print c.args.v c.finish_dying.new.v c.requires.agrees c.requires.idle
    c.in-Ok.ensures.done c.in-Ok.ensures.idle c.in-Ok.ensures.none_waits c.finish_dying.ensures.faults d volume _ c.open.ensures.images

pub returns-in-Ok-clause-fault : goal.returns-in-Ok-clause-fault
returns-in-Ok-clause-fault g c =
    let S = g.D.Pm.state in
    IfErr-weaker c.open.result _ _ (λ back is.
    reopened_fault S g.F.Fingerprint.print c.args.v c.finish_dying.new.v c.requires.agrees c.requires.idle c.in-Ok.ensures.done
    c.in-Ok.ensures.idle c.in-Ok.ensures.none_waits c.finish_dying.ensures.faults (S back.1) back.0 is) c.open.ensures.fault

pub returns-in-Err-clause-images : goal.returns-in-Err-clause-images
returns-in-Err-clause-images g c = λ d volume. rw c.into_device.ensures (c.in-Err.ensures.images d volume)
