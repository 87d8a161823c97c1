use Rattle.recovery.proofs.EmptyDisk.{valid, no_files, own, free}
use Rattle.recovery.proofs.laws.empty_disks.Goals as goal

pub returns : goal.returns
returns c = record { valid = valid; no_files = no_files; own = own; free = free }
