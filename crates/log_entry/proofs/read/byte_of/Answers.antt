use Rattle.log_entry.proofs.Bytes.{shift_is_byte}
use Rattle.log_entry.proofs.read.byte_of.Goals as goal

pub returns : goal.returns
returns c = shift_is_byte c.args.word c.args.i
