-- What a repair and a mount answer, and what they leave.
use Rattle.std.specs.Prelude.{
  ◌≡◌,
  ◌≢◌,
  ◌⊎◌,
  ℕ,
  ◌<◌,
  false,
  List,
  [],
  slice_index,
  None,
}
use Rattle.pm_device.specs.Past.{moment}
use Rattle.pm_device.specs.State.{State, IsSame, Rose}
use Rattle.pm_device.specs.Settled.{Still, LeavesOnly, StoresOnly, Nowhere}
use Rattle.pm_layout.specs.Geometry.{gate_word}
use Rattle.dn_model.specs.Rolled.{rolled, IsJournaled}
use Rattle.dn_model.specs.Disk.{Disk, Dying}
use Rattle.dn_model.specs.Counts.{Exact}
use Rattle.dn_model.specs.Faults.{FaultOf}
use Rattle.dn_model.specs.Own.{Print, IsOwn}
use Rattle.dn_model.specs.declared.fault.ImageFault.{ImageFault}
use Rattle.image_head.specs.Heads.{IsHeadFault}
use Rattle.dn_volume.specs.declared.volume.Volume.{Volume}
use Rattle.dn_volume.specs.Agrees.{IsVolume, HasNoStale}
use Rattle.dn_volume.specs.Accounts.{KeepsAlone}
use Rattle.dn_volume.specs.Sound.{Sound}
use Rattle.image_keep.specs.Free.{AreFreePages}
use Rattle.image_keep.specs.Waiting.{WaitBelow}
use Rattle.table_repair.specs.Later.{HasLater}
use Rattle.table_repair.specs.Settling.{SettlesFrom}
use Rattle.dn_mount.specs.declared.fault.MountFault.{MountFault}
use Rattle.dn_mount.specs.declared.fault.MountFault.TheVariants.{Image, NoMemory, Failed}
use Rattle.dn_mount.specs.declared.parts.Scan.{Scan}
use Rattle.dn_mount.specs.Kept.{KeepsFiles}
use Rattle.dn_mount.specs.Scanned.{IsScanOf, AreNoFlights}

-- the journal was rolled back, and nothing else was stored
pub record RollsBack (s u : State) : Type 0 where
  pub now : u.now ≡ rolled s.now
  pub still : Still u
  pub images : LeavesOnly s u (λ c. rolled c ≡ rolled s.now)
  pub only : StoresOnly (λ a. IsJournaled (slice_index s.now 3) a ⊎ (a ≡ gate_word)) s u

-- The words had this first fault. One of the head or of the journal was found before anything was
-- stored, any other once the journal was rolled back.
pub record IsRefused (fault : ImageFault) (s u : State) : Type 0 where
  pub is : FaultOf s.now fault
  pub head : IsHeadFault fault → IsSame s u
  pub rest : (IsHeadFault fault → ⊥) → RollsBack s u

-- why there is no scan and no volume
abbrev pub IsMountFault : State → State → MountFault → Type 0
IsMountFault s u (Image fault) = IsRefused fault s u
IsMountFault s u NoMemory = Unit {0}
IsMountFault s u Failed = Rose s.faults u.faults

-- what a repair makes of a device whose words stood for d: nothing differs but the table, in which
-- all counts are exact; and the scan is that of the words left
pub record IsRepaired (d : Disk) (scan : Scan) (u : State) : Type 0 where
  pub after : Disk
  pub settles : SettlesFrom d after
  pub scan_is : IsScanOf after scan u

-- on the way, each image stands for a disk that differs from d in its table alone: a row that has
-- references and no update under way is in each of them as it is
abbrev pub LeavesRepairs : Disk → State → State → Type 0
LeavesRepairs d s u = LeavesOnly s u (HasLater SettlesFrom d)

-- there is nothing to repair: the gate is closed, all counts are exact, and no pointer is stale
pub record IsClean (d : Disk) (words : List ℕ) : Type 0 where
  pub closed : slice_index words gate_word ≡ 0
  pub exact : Exact d
  pub pointers : HasNoStale d

-- nor is a file dying
pub record HasNoDying (d : Disk) : Type 0 where
  pub none : (ino cut : ℕ) → ino < d.geometry.inodes → (d.inode ino).use_of ≢ Dying cut

-- then nothing is stored
abbrev pub StoresNothing : State → State → Type 0
StoresNothing s u = StoresOnly Nowhere s u

-- What a mount makes of a device whose words stood for d. The volume agrees with the disk of after,
-- which has the files of d; nothing is under way in it, and nothing was answered yet.
pub record IsMounted {D F : Type 0} (state : D → State) (print : Print) (d : Disk) (v : Volume D F)
    : Type 0 where
  pub after : Disk
  pub volume : IsVolume after v.parts (state v.device)
  -- the files, that the words are this program's, and what is left alone
  pub keeps : KeepsFiles print d after
  pub alone : KeepsAlone d after
  -- counts, pointers, dying files and the journal
  pub exact : Exact after
  pub pointers : HasNoStale after
  pub no_dying : HasNoDying after
  pub gate : slice_index (state v.device).now gate_word ≡ 0
  pub still : Still (state v.device)
  -- the free pages and the queue are exactly those of the disk
  pub free : AreFreePages after v.parts.free
  pub queue : WaitBelow after.inode after.geometry.inodes v.parts.queue.items
  -- nothing is begun or waits
  pub running : v.parts.stopped ≡ false
  pub flights : AreNoFlights v.parts.flights.items
  pub sharing : v.parts.sharing ≡ None
  pub waiting : v.parts.reclaiming.waiting ≡ 0
  pub cleaning : v.parts.reclaiming.cleaning ≡ None
  -- nothing was answered
  pub history : v.parts.history.items ≡ []
  pub trace : v.parts.trace.items ≡ []
  pub made : v.parts.made ≡ 0
  -- it keeps to its own words, if they are this program's
  pub sound : IsOwn print after
      → Sound state print (record {
        disk = after;
        start = moment (state v.device).past;
        faults = (state v.device).faults;
      }) v

-- on the way, each image stands for a disk with the files of d
abbrev pub LeavesMounts : Print → Disk → State → State → Type 0
LeavesMounts print d s u = LeavesOnly s u (HasLater (KeepsFiles print) d)
