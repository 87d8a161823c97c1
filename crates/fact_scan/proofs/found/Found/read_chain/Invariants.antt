use Rattle.std.proofs.Common.{◌-◌, length}
use Rattle.fact_scan.specs.Found.{IsOnChain}
use Rattle.fact_scan.proofs.found.Found.read_chain.Given as goal

abbrev pub invariant-loop-next : goal.invariant-loop-next
invariant-loop-next g l = IsOnChain l.g (g.D.Pm.state l.device).now l.prefix l.self l.holder l.next

abbrev pub decreases-loop-next : goal.decreases-loop-next
decreases-loop-next g l = l.g.pages - length l.self.slots.free
