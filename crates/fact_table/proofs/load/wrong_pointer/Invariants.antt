use Rattle.std.proofs.Common.{ℕ, ◌<◌}
use Rattle.fact_table.specs.Loaded.{IsWrong}
use Rattle.fact_table.proofs.load.wrong_pointer.Given as goal

abbrev pub invariant-loop-page : goal.invariant-loop-page
invariant-loop-page g l = (page : ℕ) → page < l.page → ¬ IsWrong l.g (g.D.Pm.state l.device).now l.wanted page
