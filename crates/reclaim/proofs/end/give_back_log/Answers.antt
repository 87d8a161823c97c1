use Rattle.reclaim.proofs.LogWalk.{walk_taken, walk_last, walk_counted, walk_on}
use Rattle.reclaim.proofs.end.give_back_log.Goals as goal

pub give_back-requires-clause-taken : goal.give_back-requires-clause-taken
give_back-requires-clause-taken g c =
    let can = c.requires.can in
    walk_taken (g.D.Pm.state c.args.device.now).now c.args.g.now c.args.ino c.read_field-tail.result c.read_field-tail.ensures can.pages can.leads
    c.loop-i._i c.loop-i.page c.args.free.now c.loop-i.free
    (c.loop-i.invariant can.pages can.leads) can.taken

pub returns-then-page-tail-clause-gives : goal.returns-then-page-tail-clause-gives
returns-then-page-tail-clause-gives g c = λ pages leads.
    walk_last (g.D.Pm.state c.args.device.now).now c.args.g.now c.args.ino c.read_field-tail.result c.read_field-tail.ensures pages leads c.loop-i._i
    c.loop-i.page c.args.free.now c.loop-i.free
    (c.loop-i.invariant pages leads) c.give_back.new.self c.give_back.ensures.gives_back c.give_back.ensures.in_order c.if-page-tail.true

pub returns-then-page-tail-clause-counted : goal.returns-then-page-tail-clause-counted
returns-then-page-tail-clause-counted g c = λ pages leads.
    walk_counted (g.D.Pm.state c.args.device.now).now c.args.g.now c.args.ino c.read_field-tail.result c.read_field-tail.ensures pages leads c.loop-i._i
    c.loop-i.page c.args.free.now c.loop-i.free
    (c.loop-i.invariant pages leads) c.give_back.new.self c.give_back.ensures.gives_back c.give_back.ensures.in_order c.if-page-tail.true

pub loop-i-preserved : goal.loop-i-preserved
loop-i-preserved g c = λ pages leads.
    walk_on (g.D.Pm.state c.args.device.now).now c.args.g.now c.args.ino c.read_field-tail.result c.read_field-tail.ensures pages leads c.loop-i._i
    c.loop-i.page c.args.free.now c.loop-i.free
    (c.loop-i.invariant pages leads) c.give_back.new.self c.give_back.ensures.gives_back c.give_back.ensures.in_order c.load-page.result
    c.if-page-tail.false c.load-page.ensures
