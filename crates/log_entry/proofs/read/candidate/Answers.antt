use Rattle.std.proofs.Common.{arith}
use Rattle.log_entry.proofs.Heads.{from_head, no_kind}
use Rattle.log_entry.proofs.read.candidate.Goals as goal

pub returns-in-1 : goal.returns-in-1
returns-in-1 c = from_head c.read_write.result c.args.slots.now c.requires c.read_write.ensures.spelled c.read_write.ensures.only

pub returns-in-2 : goal.returns-in-2
returns-in-2 c = from_head c.read_size.result c.args.slots.now c.requires c.read_size.ensures.spelled c.read_size.ensures.only

pub returns-in_default : goal.returns-in_default
returns-in_default c = no_kind c.args.slots.now c.requires (λ e. omega arith) (λ e. omega arith) (λ e. omega arith) (λ e. omega arith)
