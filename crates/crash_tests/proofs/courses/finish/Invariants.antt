use Rattle.dn_volume.specs.Agrees.{Agrees}
use Rattle.crash_tests.proofs.courses.finish.Given as goal

abbrev pub invariant-loop : goal.invariant-loop
invariant-loop g l = Agrees g.D.Pm.state l.v
