-- What is read of an image's inodes.
use Rattle.std.specs.Prelude.{◌≡◌, ℕ, ◌<◌, List, slice_index}
use Rattle.dn_model.specs.Rolled.{rolled}
use Rattle.dn_model.specs.Disk.{Disk}
use Rattle.dn_model.specs.Faults.{HasGate, HasInodes, IsBadInode}

-- inodes without a fault are those of a state
abbrev pub InodesAreRead : Type 0
InodesAreRead = (c : List ℕ) → HasGate c
    → ((ino : ℕ) → ino < slice_index c 3 → IsBadInode (rolled c) ino → ⊥)
    → ((d : Disk) × HasInodes c d)

-- the first five rules speak of the geometry and the uses of inodes alone
abbrev pub InodesStay : Type 0
InodesStay = (c : List ℕ) (d e : Disk) → e.geometry ≡ d.geometry
    → ((ino : ℕ) → (e.inode ino).use_of ≡ (d.inode ino).use_of) → HasInodes c d → HasInodes c e
