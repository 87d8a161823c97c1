use Rattle.std.proofs.Common.{◌≡◌, take, ◌++◌}
use Rattle.job_runs.specs.Turns.{numbers_in}
use Rattle.job_runs.proofs.player.Player.push_round.Given as goal

abbrev pub invariant-loop-client : goal.invariant-loop-client
invariant-loop-client l = record {
  due : l.self-inside.due.items ≡ l.fn.self.due ++ numbers_in (take l.client-index l.scripts);
  answered : l.self-inside.answered ≡ l.fn.self.answered;
  flying : l.self-inside.flying ≡ l.fn.self.flying;
  idle : l.self-inside.idle ≡ l.fn.self.idle;
}
