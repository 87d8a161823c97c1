use Rattle.std.proofs.Common.{ap, arith}
use Rattle.std.specs.Option.{option_map}
use Rattle.image_logs.specs.Usage.{mapped_by}
use Rattle.image_logs.proofs.Hits.{counts-none, counts-next, counts-past, may-count_at}
use Rattle.image_logs.proofs.usage.count_places.Goals as goal

pub loop-idx-init : goal.loop-idx-init
loop-idx-init c = counts-none (mapped_by c.args.map.now.map) c.args.counts.now

pub count_page-requires : goal.count_page-requires
count_page-requires c = may-count_at (mapped_by c.args.map.now.map) c.loop-idx.idx c.args.counts.now c.loop-idx.counts c.loop-idx.invariant c.args.end
    (omega (arith, c.loop-idx-test.true, c.places_below-idx-end.ensures.within)) c.requires.room
    (c.requires.inside c.loop-idx.idx) c.block_at.result c.block_at.ensures

pub loop-idx-preserved : goal.loop-idx-preserved
loop-idx-preserved c = counts-next (mapped_by c.args.map.now.map) c.loop-idx.idx c.args.counts.now c.loop-idx.counts c.loop-idx.invariant
    c.block_at.result c.block_at.ensures
    c.count_page.new.counts c.count_page.ensures.long c.count_page.ensures.each

pub returns : goal.returns
returns c = counts-past (mapped_by c.args.map.now.map) c.loop-idx.idx c.args.counts.now c.loop-idx.counts c.loop-idx.invariant c.args.end
    (omega (arith, c.loop-idx.auto.idx-end, c.places_below-idx-end.ensures.within))
    (λ k low high. ap (option_map (λ m. m.block)) (c.places_below-idx-end.ensures.none k (omega (arith, low, c.loop-idx-test.false)) high))
