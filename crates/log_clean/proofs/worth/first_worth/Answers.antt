use Rattle.std.proofs.Common.{arith}
use Rattle.log_clean.proofs.Cleanable.{none_passes}
use Rattle.log_clean.proofs.worth.first_worth.Goals as goal

pub returns-clause-none : goal.returns-clause-none
returns-clause-none c = none_passes c.args.parts.now c.len-i-end.result (omega (arith, c.args.parts.now.inodes.ok.0))
    (λ k lt. c.loop-i.invariant k (omega arith))
