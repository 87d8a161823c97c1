use Rattle.std.proofs.Common.{◌≡◌, take}
use Rattle.job_texts.specs.Plan.{line_numbers_in}
use Rattle.thread_texts.proofs.numbers.line_numbers.Given as goal

abbrev pub invariant-loop-who : goal.invariant-loop-who
invariant-loop-who l = l.numbers.items ≡ line_numbers_in (take l.who-index l.clients)
