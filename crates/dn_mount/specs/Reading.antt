-- What is read of an image whose journal was rolled back.
use Rattle.std.specs.Prelude.{◌≡◌, ℕ, ◌*◌, ◌≤◌, List, map}
use Rattle.pm_device.specs.State.{State, Rose}
use Rattle.pm_device.specs.Settled.{Still}
use Rattle.pm_layout.specs.declared.Geometry.{Geometry}
use Rattle.dn_model.specs.Disk.{Disk, rows}
use Rattle.dn_model.specs.Image.{StandsFor, HasNoFault}
use Rattle.dn_model.specs.Faults.{HasGate, geometry_of}
use Rattle.fact_scan.specs.Seen.{as_row}
use Rattle.image_logs.specs.Logs.{AreCounted}
use Rattle.image_keep.specs.Keeping.{AreKeptTo}
use Rattle.dn_check.specs.declared.read.ImageRead.{ImageRead}
use Rattle.dn_check.specs.Passing.{IsRolled, IsWhole, IsFreeOfEach}
use Rattle.dn_volume.specs.Agrees.{StandsFast}
use Rattle.dn_mount.specs.declared.fault.MountFault.{MountFault}
use Rattle.dn_mount.specs.declared.fault.MountFault.TheVariants.{Image, NoMemory, Failed}
use Rattle.dn_mount.specs.declared.read.WholeRead.{WholeRead}
use Rattle.dn_mount.specs.Mounted.{RollsBack}

-- the head has no fault, the journal is rolled back, and there is room to repair
pub record IsPrepared (s u : State) (g : Geometry) : Type 0 where
  pub geometry : g ≡ geometry_of s.now
  pub gate : HasGate s.now
  pub back : RollsBack s u
  pub room : 12 * g.pages ≤ u.spare

-- this is read of the disk's logs and of its table
pub record IsReadOf (d : Disk) (read : WholeRead) : Type 0 where
  pub counted : AreCounted d read.image.logs
  pub rows_are : map as_row read.image.table.rows.items ≡ rows d

-- this is read of words of which each image that rolls back to them has no fault
pub record IsReadWhole (g : Geometry) (r : List ℕ) (read : WholeRead) : Type 0 where
  pub whole : IsWhole g read.image
  pub kept : AreKeptTo g r g.inodes read.kept
  pub sound : (c : List ℕ) → IsRolled c g r → HasNoFault c
  pub each : (c : List ℕ) (d : Disk) → IsRolled c g r → StandsFor c d → IsReadOf d read

-- each image of which this is read has so many pages free, and no fault
pub record HasFreeOfEach (g : Geometry) (image : ImageRead) : Type 0 where
  pub free : ℕ
  pub of_each : IsFreeOfEach g image free

-- and the device stands for the disk
pub record IsReadyOf (d : Disk) (g : Geometry) (s : State) (read : WholeRead) : Type 0 where
  pub fast : StandsFast d g s
  pub still : Still s
  pub read_of : IsReadOf d read

pub record HasReady (g : Geometry) (s : State) (read : WholeRead) : Type 0 where
  pub disk : Disk
  pub is : IsReadyOf disk g s read

-- why what is read isn't settled
abbrev pub IsSettleFault : State → State → MountFault → Type 0
IsSettleFault s u (Image fault) = ⊥
IsSettleFault s u NoMemory = Unit {0}
IsSettleFault s u Failed = Rose s.faults u.faults
