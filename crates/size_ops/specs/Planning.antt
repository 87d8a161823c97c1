-- What a cut takes.
use Rattle.std.specs.Prelude.{◌≡◌, ℕ, ◌+◌, ◌/◌, ◌≤◌, ◌==◌, if◌then◌else◌, List, Some}
use Rattle.pm_device.specs.State.{State}
use Rattle.log_entry.specs.Name.{IsLegal}
use Rattle.log_entry.specs.Spelling.{pages_of}
use Rattle.dn_model.specs.Disk.{Disk, IsUsed}
use Rattle.dn_model.specs.Files.{named}
use Rattle.dn_model.specs.History.{refilled, extra, log_of}
use Rattle.dn_model.specs.declared.op.Op.{Op}
use Rattle.dn_model.specs.declared.op.Op.TheVariants.{Cut}
use Rattle.dn_volume.specs.declared.volume.InodeState.{InodeState}
use Rattle.dn_volume.specs.declared.volume.Parts.{Parts}
use Rattle.dn_volume.specs.Inodes.{IsInodeOf}
use Rattle.dn_volume.specs.Agrees.{IsVolume}
use Rattle.size_ops.specs.declared.plan.CutPlan.{CutPlan}

-- It is a cut of the file of this inode, to a size that a file may have.
pub record IsCutOf (d : Disk) (op : Op) (ino : ℕ) : Type 0 where
  pub name : List ℕ
  pub to : ℕ
  pub op_is : op ≡ Cut name to
  pub legal : IsLegal name
  pub leads : named d name ≡ Some ino
  pub fits : to ≤ 16777216

-- whatever disk and device the parts agree with, it is
abbrev pub IsCutNow : Parts → Op → ℕ → Type 0
IsCutNow b op ino = (d : Disk) (s : State) → IsVolume d b s → IsCutOf d op ino

-- what is kept of an inode in use
pub record IsStateOf (d : Disk) (ino : ℕ) (n : InodeState) : Type 0 where
  pub used : IsUsed (d.inode ino).use_of
  pub is : IsInodeOf d ino n

-- the first place that a cut to this size takes away, where so many pages are filled anew
abbrev pub lost_from : ℕ → ℕ → ℕ
lost_from size pages = if pages == 0 then pages_of size else size / 4096

-- the plan of a cut is that of the definitions
pub record IsPlanOf (d : Disk) (op : Op) (ino : ℕ) (plan : CutPlan) : Type 0 where
  pub cut : IsCutOf d op ino
  pub ino_is : plan.ino ≡ ino
  pub size_is : plan.size ≡ cut.to
  pub pages : plan.pages ≡ refilled d cut.name cut.to
  pub log_pages : plan.log_pages ≡ extra (refilled d cut.name cut.to + 1) (log_of d cut.name)
  pub from : plan.from ≡ lost_from cut.to (refilled d cut.name cut.to)
