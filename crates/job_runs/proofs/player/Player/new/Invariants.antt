use Rattle.std.proofs.Common.{◌≡◌, take}
use Rattle.job_runs.proofs.player.Player.new.Given as goal

abbrev pub invariant-loop-who : goal.invariant-loop-who
invariant-loop-who l = l.due.items ≡ take l.who-index l.turns
