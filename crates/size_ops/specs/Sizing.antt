-- What is answered of the size of a file.
use Rattle.pm_device.specs.State.{State}
use Rattle.dn_model.specs.Disk.{Disk}
use Rattle.dn_model.specs.declared.op.Op.{Op}
use Rattle.dn_model.specs.declared.op.Reply.{Reply}
use Rattle.dn_volume.specs.declared.volume.Parts.{Parts}
use Rattle.dn_volume.specs.Agrees.{IsVolume}
use Rattle.dn_volume.specs.Begins.{IsAnswerOf}

-- the parts agree with some device that stands for some disk
pub record IsSomeVolume (b : Parts) : Type 0 where
  pub disk : Disk
  pub device : State
  pub volume : IsVolume disk b device

-- whatever disk and device they agree with, the operation is answered so at once
abbrev pub IsAnswerNow : Parts → Op → Reply → Type 0
IsAnswerNow b op reply = (d : Disk) (s : State) → IsVolume d b s → IsAnswerOf d b op reply
