use Rattle.inode_log.proofs.Reflagged.{flag_keeps_log, mask_keeps_log}
use Rattle.inode_log.proofs.laws.no_new_fault.Goals as goal

pub returns-clause-flag : goal.returns-clause-flag
returns-clause-flag c = flag_keeps_log

pub returns-clause-mask : goal.returns-clause-mask
returns-clause-mask c = mask_keeps_log
