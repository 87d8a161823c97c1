use Rattle.log_entry.proofs.Bytes.{byte_of-le_number}
use Rattle.log_entry.proofs.laws.bytes_back.Goals as goal

pub returns : goal.returns
returns c = byte_of-le_number
