use Rattle.std.proofs.Common.{subst}
use Rattle.log_entry.specs.Fronts.{IsFrontOf}
use Rattle.log_entry.proofs.Fronts.{part_no_whole}
use Rattle.log_entry.proofs.read.read_item.Goals as goal
use Rattle.log_entry.specs.declared.read.Front.{Front}

pub returns-in-Part-clause-none : goal.returns-in-Part-clause-none
returns-in-Part-clause-none c = part_no_whole c.args.slots.now (subst (λ (f : Front). IsFrontOf f c.args.slots.now) c.in-Part.is c.in_ok-item.ensures)
