use Rattle.dn_mount.proofs.Finished.{IsPartFinished}
use Rattle.dn_mount.proofs.finish.finish_dying.Given as goal

abbrev pub invariant-loop-v : goal.invariant-loop-v
invariant-loop-v g l = IsPartFinished g.D.Pm.state g.F.Fingerprint.print l.fn.v l.v

abbrev pub decreases-loop-v : goal.decreases-loop-v
decreases-loop-v g l = l.v.parts.reclaiming.waiting
