use Rattle.dn_volume.specs.Agrees.{Agrees}
use Rattle.crash_tests.proofs.cleaning.reclaim_all.Given as goal

abbrev pub invariant-loop-count : goal.invariant-loop-count
invariant-loop-count g l = Agrees g.D.Pm.state l.v
