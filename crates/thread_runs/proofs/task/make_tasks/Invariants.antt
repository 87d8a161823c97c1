use Rattle.std.proofs.Common.{◌≤◌, vec_len, vec_capacity}
use Rattle.thread_runs.proofs.Tasks.{MakesTasks}
use Rattle.thread_runs.proofs.task.make_tasks.Given as goal

abbrev pub invariant-loop-pass : goal.invariant-loop-pass
invariant-loop-pass g l = record {
  makes : MakesTasks l.board l.count l.passes.items l.tasks.items;
  passes : l.count ≤ vec_capacity l.passes;
  tasks : l.count ≤ vec_capacity l.tasks;
}

abbrev pub decreases-loop-pass : goal.decreases-loop-pass
decreases-loop-pass g l = vec_len l.passes
