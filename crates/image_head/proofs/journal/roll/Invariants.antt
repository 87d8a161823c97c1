use Rattle.image_head.proofs.Rolls.{HasBack}
use Rattle.image_head.proofs.journal.roll.Given as goal

abbrev pub invariant-loop-i : goal.invariant-loop-i
invariant-loop-i l = HasBack l.fn.image l.i l.image
