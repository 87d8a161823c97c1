use Rattle.std.proofs.Common.{◌≡◌, take}
use Rattle.log_entry.specs.Spelling.{spelled}
use Rattle.log_clean.proofs.plan.spell.Given as goal

abbrev pub invariant-loop-i : goal.invariant-loop-i
invariant-loop-i l = l.slots.items ≡ spelled (take l.i l.items)
