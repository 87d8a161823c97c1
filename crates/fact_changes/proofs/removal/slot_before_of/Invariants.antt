use Rattle.fact_changes.proofs.SlotBefore.{IsSought}
use Rattle.fact_changes.proofs.removal.slot_before_of.Given as goal

abbrev pub invariant-loop-i : goal.invariant-loop-i
invariant-loop-i g l = IsSought l.g (g.D.Pm.state l.device).now l.direct l.slot l.fn.steps l._i l.before l.steps
