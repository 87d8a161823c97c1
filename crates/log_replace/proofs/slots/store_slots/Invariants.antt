use Rattle.log_replace.specs.Slots.{StoresSlots}
use Rattle.log_replace.proofs.slots.store_slots.Given as goal

abbrev pub invariant-loop-n : goal.invariant-loop-n
invariant-loop-n g l = StoresSlots l.who l.page l.slots l.first l.last (g.D.Pm.state l.fn.device) l.n (g.D.Pm.state l.device)
