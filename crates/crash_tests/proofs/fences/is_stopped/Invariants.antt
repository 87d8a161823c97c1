use Rattle.dn_volume.specs.Agrees.{Agrees}
use Rattle.crash_tests.proofs.fences.is_stopped.Given as goal

abbrev pub invariant-loop-event : goal.invariant-loop-event
invariant-loop-event g l = Agrees g.D.Pm.state l.v
