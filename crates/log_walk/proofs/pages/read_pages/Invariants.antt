use Rattle.std.proofs.Common.{◌-◌, length}
use Rattle.log_walk.proofs.Paged.{OnWay}
use Rattle.log_walk.proofs.pages.read_pages.Given as goal

abbrev pub invariant-loop-met : goal.invariant-loop-met
invariant-loop-met g l = OnWay l.g (g.D.Pm.state l.device).now l.head l.last l.pages.items l.page l.met

abbrev pub decreases-loop-met : goal.decreases-loop-met
decreases-loop-met g l = l.g.pages - length l.pages.items
