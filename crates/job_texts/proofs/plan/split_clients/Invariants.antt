use Rattle.std.proofs.Common.{◌≡◌}
use Rattle.job_texts.specs.Plan.{scripts_in, line_numbers_in}
use Rattle.job_texts.proofs.plan.split_clients.Given as goal

abbrev pub invariant-loop-who : goal.invariant-loop-who
invariant-loop-who l = record {
  scripts : l.scripts.items ≡ scripts_in l.yielded;
  numbers : l.numbers.items ≡ line_numbers_in l.yielded;
}
