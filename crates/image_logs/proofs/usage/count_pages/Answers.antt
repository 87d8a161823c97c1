use Rattle.std.proofs.Common.{refl, Some}
use Rattle.std.specs.Prelude.{slice_index}
use Rattle.std.proofs.Common.{length}
use Rattle.image_logs.specs.Usage.{listed}
use Rattle.image_logs.proofs.Hits.{counts-none, counts-next, may-count}
use Rattle.image_logs.proofs.usage.count_pages.Goals as goal

pub loop-i-init : goal.loop-i-init
loop-i-init c = counts-none (listed c.args.pages.now) c.args.counts.now

pub count_page-requires : goal.count_page-requires
count_page-requires c = may-count (listed c.args.pages.now) c.loop-i.i c.args.counts.now c.loop-i.counts c.loop-i.invariant (length c.args.pages.now)
    c.loop-i-test.true c.requires.room
    (slice_index c.args.pages.now c.loop-i.i) (c.requires.inside c.loop-i.i 0 c.loop-i-test.true)

pub loop-i-preserved : goal.loop-i-preserved
loop-i-preserved c = counts-next (listed c.args.pages.now) c.loop-i.i c.args.counts.now c.loop-i.counts c.loop-i.invariant
    (Some (slice_index c.args.pages.now c.loop-i.i)) refl
    c.count_page.new.counts c.count_page.ensures.long c.count_page.ensures.each
