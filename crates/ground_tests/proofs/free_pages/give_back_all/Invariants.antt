use Rattle.std.proofs.Common.{◌≡◌}
use Rattle.ground_tests.proofs.free_pages.give_back_all.Given as goal

abbrev pub invariant-loop-page : goal.invariant-loop-page
invariant-loop-page l = l.set.pages ≡ l.initial.set.pages
