-- What was read of an image stands for a disk, of whose counts all are exact.
use Rattle.std.specs.Prelude.{
  ◌≡◌,
  ℕ,
  ◌≤◌,
  false,
  List,
  [],
  length,
  slice_get,
  Some,
  None,
  Option,
  Contains,
  vec_len,
  vec_capacity,
}
use Rattle.std.specs.VecDeque.{deque_len, deque_capacity}
use Rattle.pm_device.specs.State.{State}
use Rattle.pm_device.specs.Settled.{Still}
use Rattle.log_entry.specs.declared.item.Flag.TheVariants.{Complete}
use Rattle.image_keep.specs.Free.{AreFreePages}
use Rattle.image_keep.specs.Waiting.{WaitBelow}
use Rattle.dedupe_queue.specs.declared.Work.{Work}
use Rattle.dn_model.specs.Maps.{Mapping}
use Rattle.dn_model.specs.Disk.{Disk}
use Rattle.dn_model.specs.Counts.{total, Exact}
use Rattle.dn_model.specs.Own.{LivePlace}
use Rattle.dn_volume.specs.declared.flight.Flight.{Flight}
use Rattle.dn_volume.specs.declared.volume.InodeState.{InodeState}
use Rattle.dn_volume.specs.declared.volume.Parts.{Parts}
use Rattle.dn_volume.specs.Agrees.{StandsFast, HasNoStale}
use Rattle.dn_volume.specs.Inodes.{AreInodesOf, AreNamesOf}
use Rattle.dn_volume.specs.Space.{AreSlotsOf}
use Rattle.dn_volume.specs.Parties.{flight_at}
use Rattle.dn_volume.specs.Reclaims.{dying_units}
use Rattle.dn_mount.specs.declared.parts.Scan.{Scan}

-- no client has an operation in flight
pub record AreNoFlights (flights : List (Option Flight)) : Type 0 where
  pub clients : length flights ≡ 14
  pub none : (k : ℕ) → flight_at flights k ≡ None

-- the item at this slot of an inode's log waits
pub record Waits (work : List Work) (inodes : List InodeState) (ino slot : ℕ) : Type 0 where
  pub item : Work
  pub listed : Contains work item
  pub ino_is : item.ino ≡ ino
  pub slot_is : item.slot ≡ slot
  pub node : InodeState
  pub at : slice_get inodes ino ≡ Some node
  pub round_is : item.round ≡ node.round

pub record IsScanOf (d : Disk) (scan : Scan) (s : State) : Type 0 where
  pub fast : StandsFast d scan.geometry s
  pub still : Still s
  pub exact : Exact d
  pub pointers : HasNoStale d
  pub free : AreFreePages d scan.free
  pub names : AreNamesOf d scan.names.map
  pub inodes : AreInodesOf d scan.inodes.items
  pub unheld : (ino : ℕ) (n : InodeState) → slice_get scan.inodes.items ino ≡ Some n
      → n.holder ≡ None
  pub table : AreSlotsOf d scan.fact
  pub waits : (ino idx : ℕ) (m : Mapping) → LivePlace d ino idx m → (m.flag ≡ Complete → ⊥)
      → Waits scan.work.items scan.inodes.items ino m.slot
  pub queue : WaitBelow d.inode d.geometry.inodes scan.work.items
  pub waiting : scan.waiting ≡ total d.geometry.inodes (dying_units d)

-- The parts are those of the scan: nothing is under way or was answered, and no room is owed.
pub record IsFreshOf (scan : Scan) (b : Parts) : Type 0 where
  pub geometry : b.geometry ≡ scan.geometry
  pub free : b.free ≡ scan.free
  pub names : b.names ≡ scan.names
  pub inodes : b.inodes.items ≡ scan.inodes.items
  pub fact : b.fact ≡ scan.fact
  pub queue : b.queue ≡ scan.work
  pub flights : AreNoFlights b.flights.items
  pub sharing : b.sharing ≡ None
  pub zero_check : b.reclaiming.zero_check ≡ None
  pub unraised : b.reclaiming.raised ≡ None
  pub releases : b.reclaiming.releases.items ≡ []
  pub waiting : b.reclaiming.waiting ≡ scan.waiting
  pub cleaning : b.reclaiming.cleaning ≡ None
  pub history : b.history.items ≡ []
  pub trace : b.trace.items ≡ []
  pub made : b.made ≡ 0
  pub running : b.stopped ≡ false
  pub owed : b.owed ≡ record { units = 0; trace = 0; history = 0; queue = 0; releases = 0 }
  pub room_trace : vec_len b.trace ≤ vec_capacity b.trace
  pub room_history : vec_len b.history ≤ vec_capacity b.history
  pub room_releases : deque_len b.reclaiming.releases ≤ deque_capacity b.reclaiming.releases
