use Rattle.std.proofs.Common.{◌≡◌, ◌++◌, drop, map}
use Rattle.log_walk.specs.Items.{seen}
use Rattle.dn_volume.specs.Cleans.{due_slots}
use Rattle.log_clean.proofs.plan.due_slots.Given as goal

abbrev pub invariant-loop-i : goal.invariant-loop-i
invariant-loop-i l = l.due.items ++ due_slots (map seen (drop l.i l.items)) ≡ due_slots (map seen l.items)
