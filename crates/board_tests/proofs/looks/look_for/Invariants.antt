use Rattle.board_tests.specs.Trial.{IsAgain}
use Rattle.board_tests.proofs.looks.look_for.Given as goal

abbrev pub invariant-loop : goal.invariant-loop
invariant-loop l = IsAgain l.board l.fn.pass l.pass
