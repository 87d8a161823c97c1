use Rattle.std.proofs.Common.{arith, ap, ◌∙◌, ◌++◌, sym}
use Rattle.std.specs.Prelude.{flat_map, take}
use Rattle.dedupe_daemon.specs.Ahead.{work_pages}
use Rattle.dedupe_daemon.proofs.AheadLists.{work_one, work_past}
use Rattle.dedupe_daemon.proofs.ahead.push_queue.Goals as goal

pub loop-n-preserved : goal.loop-n-preserved
loop-n-preserved g c = work_one (work_pages (g.D.Pm.state c.args.v.now.device).now c.args.v.now.parts.inodes.items) c.args.v.now.parts.queue.items
    c.loop-n.n c.in-Some.work c.args.pages.now.items c.loop-n.pages.items c.push_work.new.pages.items c.loop-n.invariant
    (sym c.get.ensures ∙ c.in-Some.is) c.in_ok-push_work.ensures

pub returns-in_default : goal.returns-in_default
returns-in_default g c = work_past (work_pages (g.D.Pm.state c.args.v.now.device).now c.args.v.now.parts.inodes.items)
    c.args.v.now.parts.queue.items c.loop-n.n c.args.most c.args.pages.now.items c.loop-n.pages.items c.loop-n.invariant
    (sym c.get.ensures ∙ c.in_default.is) (omega (arith, c.loop-n-test.true))
