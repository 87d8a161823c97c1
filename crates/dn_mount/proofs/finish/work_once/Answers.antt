use Rattle.std.proofs.Common.{sym, subst}
use Rattle.std.specs.Prelude.{Result, OnOk}
use Rattle.dn_model.specs.Disk.{Disk}
use Rattle.dn_volume.specs.Agrees.{IsVolume}
use Rattle.dn_mount.specs.declared.fault.MountFault.{MountFault}
use Rattle.dn_mount.specs.Finishing.{Lowers}
use Rattle.dn_mount.proofs.Finished.{event_done, event_images}
use Rattle.dn_mount.proofs.finish.work_once.Goals as goal

pub returns-clause-done : goal.returns-clause-done
returns-clause-done g c =
    let S = g.D.Pm.state in
    let P = g.F.Fingerprint.print in
    subst (λ (r : Result (Unit {0}) MountFault). OnOk r ((d : Disk) → IsVolume d c.args.v.now.parts (S c.args.v.now.device)
    → Lowers S P c.args.v.now c.reclaim.new.v d)) (sym c.as_result.ensures)
    (event_done S P c.args.v.now c.reclaim.new.v c.requires.waits c.reclaim.result c.reclaim.ensures.event)

pub returns-clause-images : goal.returns-clause-images
returns-clause-images g c = λ d volume. event_images g.D.Pm.state g.F.Fingerprint.print c.args.v.now c.reclaim.new.v c.requires.waits
    (g.met.D.Pm.agree c.args.v.now.device) d volume c.reclaim.result c.reclaim.ensures.event
