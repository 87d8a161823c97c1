use Rattle.std.proofs.Common.{sym, arith}
use Rattle.image_logs.proofs.Hits.{total-next, total-none}
use Rattle.image_keep.specs.Keeping.{place_hit}
use Rattle.image_keep.proofs.keep.count_places.Goals as goal

pub loop-idx-init : goal.loop-idx-init
loop-idx-init c = (sym (total-none (place_hit c.args.map.now.map)), omega arith)

pub loop-idx-preserved : goal.loop-idx-preserved
loop-idx-preserved c = (
  omega (arith, c.loop-idx.invariant.0, c.place_hit-count.ensures.hit, total-next (place_hit c.args.map.now.map) c.loop-idx.idx),
  omega (arith, c.loop-idx.invariant.1, c.place_hit-count.ensures.few),
)
