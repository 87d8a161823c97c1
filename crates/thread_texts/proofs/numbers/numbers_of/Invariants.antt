use Rattle.std.proofs.Common.{◌≡◌, take}
use Rattle.job_texts.specs.Plan.{numbers_in}
use Rattle.thread_texts.proofs.numbers.numbers_of.Given as goal

abbrev pub invariant-loop-line : goal.invariant-loop-line
invariant-loop-line l = l.numbers.items ≡ numbers_in (take l.line-index l.lines)
