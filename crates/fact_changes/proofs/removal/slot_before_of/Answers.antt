use Rattle.std.proofs.Common.{arith}
use Rattle.fact_changes.proofs.SlotBefore.{sought_begins, sought_on, sought_ends}
use Rattle.law_table.specs.Changes.{slot_before}
use Rattle.fact_changes.proofs.removal.slot_before_of.Goals as goal

pub loop-i-init : goal.loop-i-init
loop-i-init g c = record {
  steps_are = omega arith;
  left = sought_begins c.args.g.now (g.D.Pm.state c.args.device.now).now c.args.direct c.args.slot
      c.requires.direct;
}

pub loop-i-preserved : goal.loop-i-preserved
loop-i-preserved g c = record {
  steps_are = omega (arith, c.loop-i.invariant.steps_are, c.read_slot-next.ensures.one_step);
  left = λ rows is.
      sought_on c.args.g.now (g.D.Pm.state c.args.device.now).now c.args.slot (slot_before c.args.direct rows c.args.slot) _ c.loop-i._i
      c.loop-i.before c.read_slot-next.result.next c.read_slot-next.ensures.read.next (c.loop-i.invariant.left rows is) c.if-next-slot.false;
}

pub returns-clause-before : goal.returns-clause-before
returns-clause-before g c = λ rows is.
    absurd (sought_ends c.args.g.now (g.D.Pm.state c.args.device.now).now c.args.direct c.args.slot c.loop-i._i c.loop-i.before rows is
    (c.loop-i.invariant.left rows is) (omega arith))
