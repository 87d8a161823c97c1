use Rattle.std.proofs.Common.{sym, subst}
use Rattle.denova_runs.specs.declared.run.RunEnd.{RunEnd}
use Rattle.denova_runs.specs.Ran.{RunFails}
use Rattle.denova_runs.proofs.Bases.{mounted_agrees, mounted_new, mounted_base, mount_fails}
use Rattle.denova_runs.proofs.run.open_volume.Goals as goal

pub returns-in-Ok-clause-agrees : goal.returns-in-Ok-clause-agrees
returns-in-Ok-clause-agrees g c =
    let sound = c.in-Ok.ensures.sound in
    mounted_agrees g.D.Pm.state g.F.Fingerprint.print sound.disk c.in-Ok.v (c.in-Ok.ensures.mounted sound.disk sound.stands_for)

pub returns-in-Ok-clause-new : goal.returns-in-Ok-clause-new
returns-in-Ok-clause-new g c =
    let sound = c.in-Ok.ensures.sound in
    mounted_new g.D.Pm.state g.F.Fingerprint.print sound.disk c.in-Ok.v (c.in-Ok.ensures.mounted sound.disk sound.stands_for)

pub returns-in-Ok-clause-trace : goal.returns-in-Ok-clause-trace
returns-in-Ok-clause-trace g c = let sound = c.in-Ok.ensures.sound in (c.in-Ok.ensures.mounted sound.disk sound.stands_for).trace

pub returns-in-Ok-clause-begun : goal.returns-in-Ok-clause-begun
returns-in-Ok-clause-begun g c = record {
  faults = c.in-Ok.ensures.faults;
  base = λ d stood own. mounted_base g.D.Pm.state g.F.Fingerprint.print d c.in-Ok.v (c.in-Ok.ensures.mounted d stood)
      (g.D.Pm.state c.args.device) (g.met.D.Pm.agree c.args.device) c.requires.still stood own (c.in-Ok.ensures.images d stood)
      c.in-Ok.ensures.faults;
}

pub returns-in-Err-clause-fails : goal.returns-in-Err-clause-fails
returns-in-Err-clause-fails g c =
    let S = g.D.Pm.state in
    λ scripts. subst (λ (end : RunEnd). RunFails g.F.Fingerprint.print scripts (S c.args.device) (S c.in-Err.device) end) (sym c.from.ensures)
    (mount_fails g.F.Fingerprint.print (S c.args.device) (S c.in-Err.device) (g.met.D.Pm.agree c.args.device) c.requires.still scripts
    c.in-Err.ensures.images c.in-Err.fault c.in-Err.ensures.fault)
