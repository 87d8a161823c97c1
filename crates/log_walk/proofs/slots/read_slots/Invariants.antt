use Rattle.std.proofs.Common.{◌≡◌}
use Rattle.log_walk.specs.Slots.{first_slots}
use Rattle.log_walk.proofs.slots.read_slots.Given as goal

abbrev pub invariant-loop-k : goal.invariant-loop-k
invariant-loop-k g l = l.slots.items ≡ first_slots (g.D.Pm.state l.device).now l.pages l.k
