use Rattle.image_logs.specs.Usage.{mapped_by, CountsPages}
use Rattle.image_logs.proofs.usage.count_places.Given as goal

abbrev pub invariant-loop-idx : goal.invariant-loop-idx
invariant-loop-idx l = CountsPages (mapped_by l.map.map) l.idx l.fn.counts l.counts
