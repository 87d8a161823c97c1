use Rattle.std.proofs.Common.{◌≡◌}
use Rattle.job_texts.specs.Plan.{ops_in, numbers_in}
use Rattle.job_texts.proofs.plan.split_lines.Given as goal

abbrev pub invariant-loop-number : goal.invariant-loop-number
invariant-loop-number l = record {
  ops : l.ops.items ≡ ops_in l.yielded;
  numbers : l.numbers.items ≡ numbers_in l.yielded;
}
