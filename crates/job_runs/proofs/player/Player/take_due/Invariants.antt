use Rattle.std.proofs.Common.{◌≡◌, length}
use Rattle.job_runs.specs.Turns.{Played, first_in}
use Rattle.job_runs.specs.Player.{HasCounts}
use Rattle.job_runs.proofs.player.Player.take_due.Given as goal

abbrev pub invariant-loop-who : goal.invariant-loop-who
invariant-loop-who l = record {
  same : l.self ≡ record l.fn.self { due = l.self.due };
  first : (p : Played) → HasCounts p l.fn.self.answered l.fn.self.flying
      → first_in l.scripts p l.fn.self.idle l.fn.self.due ≡ first_in l.scripts p l.fn.self.idle l.self.due;
}

abbrev pub decreases-loop-who : goal.decreases-loop-who
decreases-loop-who l = length l.self.due
