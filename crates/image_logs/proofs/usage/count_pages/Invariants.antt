use Rattle.image_logs.specs.Usage.{listed, CountsPages}
use Rattle.image_logs.proofs.usage.count_pages.Given as goal

abbrev pub invariant-loop-i : goal.invariant-loop-i
invariant-loop-i l = CountsPages (listed l.pages) l.i l.fn.counts l.counts
