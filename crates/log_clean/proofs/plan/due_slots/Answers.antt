use Rattle.log_clean.proofs.Planned.{due_next, all_due}
use Rattle.log_clean.proofs.plan.due_slots.Goals as goal

pub loop-i-preserved : goal.loop-i-preserved
loop-i-preserved c = due_next c.args.items.now c.loop-i.i c.index-items-i.result c.loop-i.due.items c.push_due.new.due.items c.loop-i-test.true
    c.index-items-i.is c.loop-i.invariant c.in_ok-push_due.ensures

pub returns : goal.returns
returns c = all_due c.args.items.now c.loop-i.i c.loop-i.due.items c.loop-i-test.false c.loop-i.invariant
