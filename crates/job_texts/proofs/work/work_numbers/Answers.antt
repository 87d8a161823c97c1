use Rattle.job_texts.proofs.Planned.{numbers_more}
use Rattle.job_texts.proofs.work.work_numbers.Goals as goal

pub loop-before-preserved : goal.loop-before-preserved
loop-before-preserved c = numbers_more c.loop-before.before c.loop-before.numbers.items _ c.loop-before.invariant c.in_ok-push.ensures.items
