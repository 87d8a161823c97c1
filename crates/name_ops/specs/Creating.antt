-- What the begin of a creation looks for.
use Rattle.std.specs.Prelude.{◌≡◌, ℕ, ◌<◌, ◌≤◌, List, slice_get, Some}
use Rattle.dn_volume.specs.declared.volume.InodeState.{InodeState}
use Rattle.dn_volume.specs.declared.volume.InodeUse.TheVariants as used
use Rattle.dn_model.specs.Disk.{Disk}
use Rattle.dn_model.specs.declared.op.Op.TheVariants.{Create}
use Rattle.dn_volume.specs.declared.volume.Parts.{Parts}
use Rattle.dn_volume.specs.Begins.{IsUnhindered, LacksInode}
use Rattle.name_ops.specs.declared.found.Found.{Found}
use Rattle.name_ops.specs.Finding.{IsFound}

-- of the inodes from 1 on and below this one, none is free
abbrev pub NoneFreeBelow : List InodeState → ℕ → Type 0
NoneFreeBelow inodes end = (ino : ℕ) (n : InodeState) → 1 ≤ ino → ino < end
    → slice_get inodes ino ≡ Some n → n.used ≡ used.Free → ⊥

-- the least of them that is free
pub record IsLeastFree (inodes : List InodeState) (ino : ℕ) : Type 0 where
  pub file : 1 ≤ ino
  pub node : InodeState
  pub at : slice_get inodes ino ≡ Some node
  pub free : node.used ≡ used.Free
  pub least : NoneFreeBelow inodes ino

-- a creation finds this where no inode is free
abbrev pub FindsNone : Parts → Found → Type 0
FindsNone b found = (d : Disk) (name : List ℕ) → IsUnhindered d b (Create name)
    → LacksInode d (Create name) → IsFound d b (Create name) found
