use Rattle.std.proofs.Common.{◌+◌, ◌≤◌, length, vec_len, vec_capacity}
use Rattle.thread_runs.proofs.Tasks.{GathersSo}
use Rattle.thread_runs.proofs.gather.gather.Given as goal

abbrev pub invariant-loop-task : goal.invariant-loop-task
invariant-loop-task g l = record {
  so : GathersSo (l.last + 2) l.last l.clients l.initial.tasks.items l.tasks.items l.passes.items l.readings.items l.whole;
  place : l.last + 2 ≤ vec_capacity l.passes;
  room : length l.clients ≤ vec_capacity l.readings;
}

abbrev pub decreases-loop-task : goal.decreases-loop-task
decreases-loop-task g l = vec_len l.tasks
