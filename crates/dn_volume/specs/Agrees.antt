-- That what is kept in memory agrees with the device's words.
use Rattle.std.specs.Prelude.{◌≡◌, ◌≢◌, ℕ, ◌*◌, ◌<◌, true, false, List, length, slice_index, All}
use Rattle.pm_device.specs.State.{State}
use Rattle.pm_device.specs.Reading.{Stands}
use Rattle.pm_layout.specs.declared.Geometry.{Geometry}
use Rattle.pm_layout.specs.Geometry.{IsAccepted, slots}
use Rattle.dn_model.specs.Disk.{Disk, DiskSays}
use Rattle.dn_model.specs.Valid.{IsValid}
use Rattle.fact_table.specs.Table.{HasNoneOf}
use Rattle.dn_model.specs.declared.op.CountChange.{CountChange}
use Rattle.dn_volume.specs.declared.volume.Parts.{Parts}
use Rattle.dn_volume.specs.declared.volume.Volume.{Volume}
use Rattle.dn_volume.specs.Inodes.{AreInodesOf, AreNamesOf, AreHolders}
use Rattle.dn_volume.specs.Space.{HasSpace, AreSlotsOf}
use Rattle.dn_volume.specs.Balance.{AreCounted}
use Rattle.dn_volume.specs.Flights.{AreFlights}
use Rattle.dn_volume.specs.Shares.{IsQueued, Shares}
use Rattle.dn_volume.specs.Reclaims.{IsReclaiming}
use Rattle.dn_volume.specs.Cleans.{Cleans}
use Rattle.dn_volume.specs.Reserve.{HasRoom}
use Rattle.dn_volume.specs.Stills.{IsStillBut}

-- the device stands for a disk without a fault: as it reads now, and in each image that a stop may
-- leave
pub record StandsFast (d : Disk) (g : Geometry) (s : State) : Type 0 where
  pub geometry : d.geometry ≡ g
  pub long : length s.now ≡ 512 * d.geometry.pages
  pub valid : IsValid d
  pub stands : Stands (DiskSays d) s

abbrev pub NamesSlots : Parts → Type 0
NamesSlots b = All (λ (change : CountChange). change.slot < slots b.geometry) b.trace.items

-- the pointer of each page is 0, or the page has a row
pub record HasNoStale (d : Disk) : Type 0 where
  pub none : (page : ℕ) → page < d.geometry.pages → d.pointer page ≢ 0 → HasNoneOf d page → ⊥

-- The device stands for this disk. Each further fact speaks of the parts that it names alone, so
-- that what changes no
-- part of it carries it over.
pub record IsVolume (d : Disk) (b : Parts) (s : State) : Type 0 where
  -- the words stand for the disk, now and in each image that a stop may leave
  pub fast : StandsFast d b.geometry s
  -- no fence failed
  pub running : b.stopped ≡ false
  -- each name leads to the inode to which it leads on the disk
  pub names : AreNamesOf d b.names.map
  -- each inode's use, size and places are the disk's
  pub inodes : AreInodesOf d b.inodes.items
  -- each inode tells the one actor that holds it
  pub holders : AreHolders d b
  -- the free pages are those that are unused and that nobody has taken
  pub space : HasSpace d b
  -- the slots that are kept as empty have no row
  pub table : AreSlotsOf d b.fact
  -- each row's counts tell its page's mappings, but for what is under way
  pub counts : AreCounted d b
  -- each operation in flight is as far as it tells
  pub flights : AreFlights d b s
  -- each place that is to be shared waits for the daemon
  pub queue : IsQueued d b
  -- the daemon's item is as far as it tells
  pub sharing : Shares d b
  -- what waits for reclaim is counted
  pub reclaiming : IsReclaiming d b
  -- the log that is being cleaned is as far as it tells
  pub cleaning : Cleans d b s
  -- no pointer leads to a row that is gone
  pub pointers : HasNoStale d
  -- the room that is owed to what is begun is there
  pub room : HasRoom b s
  -- each change of counts names a slot
  pub trace : NamesSlots b
  -- each word is settled, or some operation's next fence settles it
  pub still : IsStillBut b s

-- the first words of an image: they tell its pages and inodes
pub record HasHead (g : Geometry) (words : List ℕ) : Type 0 where
  pub magic : slice_index words 0 ≡ 0x313041564F4E4544
  pub version : slice_index words 1 ≡ 1
  pub pages : slice_index words 2 ≡ g.pages
  pub inodes : slice_index words 3 ≡ g.inodes

-- What is known once a fence failed. The journal may be open, and what stands elsewhere is known of
-- the images alone.
pub record IsStopped (b : Parts) (s : State) : Type 0 where
  pub stopped : b.stopped ≡ true
  pub accepted : IsAccepted b.geometry
  pub long : length s.now ≡ 512 * b.geometry.pages
  pub head : HasHead b.geometry s.now
  pub trace : NamesSlots b

pub data Agrees {D F : Type 0} (state : D → State) (v : Volume D F) : Type 0 where
  agrees_with : (d : Disk) → IsVolume d v.parts (state v.device) → Agrees state v
  is_stopped : IsStopped v.parts (state v.device) → Agrees state v
