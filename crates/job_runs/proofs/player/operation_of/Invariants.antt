use Rattle.std.proofs.Common.{◌≡◌, drop}
use Rattle.job_runs.specs.Turns.{script_of}
use Rattle.job_runs.proofs.player.operation_of.Given as goal

abbrev pub invariant-loop-client : goal.invariant-loop-client
invariant-loop-client l = script_of (drop l.client-index l.scripts) l.who ≡ script_of l.scripts l.who
