use Rattle.denova_runs.proofs.Mounts.{stays-mount}
use Rattle.denova_calls.proofs.Looks.{mount_ends}
use Rattle.denova_calls.proofs.mounted.mounted.Goals as goal

pub returns-in-Ok-clause-open : goal.returns-in-Ok-clause-open
returns-in-Ok-clause-open g c =
    let S = g.D.Pm.state in
    let told = c.in-Ok.ensures in
    record {
      sound = told.sound;
      mounted = told.mounted;
      course = λ d stands own. stays-mount g.F.Fingerprint.print d (S c.args.device) (g.met.D.Pm.agree c.args.device) c.requires.still stands own
          (S c.in-Ok.v.device) (told.images d stands);
    }

pub returns-in-Err-clause-fails : goal.returns-in-Err-clause-fails
returns-in-Err-clause-fails g c =
    let S = g.D.Pm.state in
    mount_ends g.F.Fingerprint.print (S c.args.device) (S c.in-Err.device) (g.met.D.Pm.agree c.args.device) c.requires.still c.in-Err.ensures.images
    c.in-Err.fault c.unmounted.result c.in-Err.ensures.fault c.unmounted.ensures
