use Rattle.std.proofs.Common.{List}
use Rattle.dn_volume.specs.Agrees.{Agrees}
use Rattle.dn_core.specs.declared.event.Event.{Event}
use Rattle.dn_core.specs.Rest.{AreFullRounds}
use Rattle.dn_volume.specs.Works.{work_left}
use Rattle.dn_core.specs.Working.{Draining}
use Rattle.dn_core.proofs.draining.drain.Given as goal

abbrev pub invariant-loop-reclaim_rests : goal.invariant-loop-reclaim_rests
invariant-loop-reclaim_rests g l = record {
  agrees : Agrees g.D.Pm.state l.v;
  so_far : (events : List Event) × AreFullRounds events × Draining g.D.Pm.state g.F.Fingerprint.print l.fn.v l.v events;
}

abbrev pub decreases-loop-reclaim_rests : goal.decreases-loop-reclaim_rests
decreases-loop-reclaim_rests g l = work_left l.v.parts
