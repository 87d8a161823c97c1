use Rattle.dn_core.proofs.Served.{disk_of}
use Rattle.dn_core.proofs.Cleaned.{never_else}
use Rattle.dn_core.proofs.stepping.release_instead.Goals as goal

pub unreachable-requires : goal.unreachable-requires
unreachable-requires g c =
    let found = disk_of g.D.Pm.state c.args.v.now c.requires.agrees c.requires.running in
    never_else g.D.Pm.state g.F.Fingerprint.print c.args.v.now c.reclaim.new.v found.0 c.requires.waits c.reclaim.result
    (c.reclaim.ensures.event found.0 found.1) c.in_default.not-Running c.in_default.not-NoMemory c.in_default.not-Stopped

pub returns-in-Running-clause-event : goal.returns-in-Running-clause-event
returns-in-Running-clause-event g c d volume = let is = c.in-Running.ensures.event d volume in (is.0, is.2)
