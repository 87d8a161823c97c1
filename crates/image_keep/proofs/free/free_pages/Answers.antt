use Rattle.std.proofs.Common.{arith}
use Rattle.pm_layout.specs.Geometry.{first_data}
use Rattle.image_keep.proofs.Freed.{free_more, free_ends}
use Rattle.image_keep.proofs.free.free_pages.Goals as goal

pub loop-page-preserved : goal.loop-page-preserved
loop-page-preserved c = (
  free_more c.args.in_logs.now c.args.mapped.now (first_data c.args.g.now) c.args.g.now.pages c.loop-page.page c.loop-page.invariant.1 c.loop-page.set
      c.give_if.new.set c.loop-page.invariant.0
      c.is_unused.result c.is_unused.ensures c.give_if.ensures.yes c.give_if.ensures.no c.give_if.ensures.in_order,
  omega (arith, c.loop-page.invariant.1),
)

pub returns : goal.returns
returns c = free_ends c.args.g.now c.args.in_logs.now c.args.mapped.now c.loop-page.page c.loop-page.set c.loop-page.invariant.0
    (omega (arith, c.loop-page-test.false, c.loop-page.auto.page-end, c.first_data-page.ensures, c.requires.accepted.room))
