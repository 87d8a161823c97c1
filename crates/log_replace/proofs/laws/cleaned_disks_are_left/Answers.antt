use Rattle.log_replace.proofs.CleanedDisk.{cleaned_left}
use Rattle.log_replace.proofs.laws.cleaned_disks_are_left.Goals as goal

pub returns : goal.returns
returns c = cleaned_left
