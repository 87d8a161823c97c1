use Rattle.std.proofs.Common.{◌≤◌}
use Rattle.board_tests.specs.Trial.{IsAgain, Does}
use Rattle.board_tests.proofs.turns.work.Given as goal

abbrev pub invariant-loop : goal.invariant-loop
invariant-loop g l = IsAgain l.board l.fn.pass l.pass × Does l.fn.pass l.made l.words.items l.pass × (l.made ≤ l.counter)
