use Rattle.std.proofs.Common.{◌≡◌, ℕ, drop}
use Rattle.job_runs.specs.Turns.{Played, is_answered}
use Rattle.job_runs.specs.Scripts.{Rises}
use Rattle.job_runs.specs.Player.{HasCounts}
use Rattle.job_runs.proofs.player.Player.is_answered.Given as goal

abbrev pub invariant-loop-client : goal.invariant-loop-client
invariant-loop-client l = record {
  rises : (low : ℕ) × Rises low (drop l.client-index l.scripts);
  rest : (p : Played) → HasCounts p l.self.answered l.self.flying
      → is_answered (drop l.client-index l.scripts) p.entries ≡ is_answered l.scripts p.entries;
}
