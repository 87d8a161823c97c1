use Rattle.file_content.proofs.Cutting.{goes_on-next}
use Rattle.std.proofs.Common.{arith}
use Rattle.file_content.proofs.runs.run_length.Goals as goal

pub loop-at-preserved : goal.loop-at-preserved
loop-at-preserved c = goes_on-next c.args.pages.now c.args.from c.loop-at.at c.loop-at.invariant (omega (arith, c.loop-at.auto.at))
    c.loop-at-test.true (c.is_next.ensures.0 c.if-not-is_next.false)
