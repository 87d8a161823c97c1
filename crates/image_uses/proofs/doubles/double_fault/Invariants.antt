use Rattle.image_uses.specs.UsesLoop.{NoneTwice}
use Rattle.image_uses.proofs.doubles.double_fault.Given as goal

abbrev pub invariant-loop-page : goal.invariant-loop-page
invariant-loop-page l = NoneTwice l.in_logs l.mapped l.has_row l.page
