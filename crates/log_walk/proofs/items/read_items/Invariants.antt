use Rattle.std.proofs.Common.{◌-◌, ◌≤◌, length}
use Rattle.log_walk.specs.Items.{AreFront}
use Rattle.log_walk.proofs.items.read_items.Given as goal

abbrev pub invariant-loop-taken : goal.invariant-loop-taken
invariant-loop-taken l = record {
  front : AreFront l.g l.ino l.pages l.slots l.items.items l.taken;
  within : l.taken ≤ length l.slots;
}

abbrev pub decreases-loop-taken : goal.decreases-loop-taken
decreases-loop-taken l = length l.slots - l.taken
