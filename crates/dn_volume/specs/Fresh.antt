-- A volume that was just mounted from an image without files.
use Rattle.std.specs.Prelude.{
  ◌≡◌,
  ◌↔◌,
  ℕ,
  zero,
  suc,
  ◌<◌,
  false,
  List,
  [],
  length,
  slice_get,
  Option,
  Some,
  None,
  Contains,
}
use Rattle.std.specs.FinMap.{get}
use Rattle.pm_device.specs.Past.{moment}
use Rattle.pm_device.specs.State.{State, Agree}
use Rattle.pm_device.specs.Settled.{Still}
use Rattle.page_alloc.specs.Free.{IsInOrder}
use Rattle.pm_layout.specs.declared.Geometry.{Geometry}
use Rattle.pm_layout.specs.Geometry.{InData}
use Rattle.dn_model.specs.Own.{Print, IsOwn}
use Rattle.dn_model.specs.Empty.{empty_disk}
use Rattle.dn_volume.specs.declared.flight.Flight.{Flight}
use Rattle.dn_volume.specs.declared.volume.InodeState.{InodeState}
use Rattle.dn_volume.specs.declared.volume.InodeUse.{InodeUse}
use Rattle.dn_volume.specs.declared.volume.InodeUse.TheVariants as used
use Rattle.dn_volume.specs.declared.volume.Parts.{Parts}
use Rattle.dn_volume.specs.Agrees.{StandsFast, IsVolume}
use Rattle.dn_volume.specs.Sound.{IsSound}

-- the root is live, and every other inode is free
abbrev pub fresh_use : ℕ → InodeUse
fresh_use zero = used.Live
fresh_use (suc k) = used.Free

pub record IsFreshInode (ino : ℕ) (n : InodeState) : Type 0 where
  pub used_is : n.used ≡ fresh_use ino
  pub size_is : n.size ≡ 0
  pub log_pages_is : n.log_pages ≡ 0
  pub no_places : (idx : ℕ) → get n.map.map idx ≡ None
  pub unheld : n.holder ≡ None

-- all data pages are free, no name leads anywhere, and nothing is under way
pub record IsFresh (g : Geometry) (b : Parts) : Type 0 where
  pub geometry : b.geometry ≡ g
  pub pages : b.free.pages ≡ g.pages
  pub in_order : IsInOrder b.free
  pub free : (page : ℕ) → Contains b.free.free page ↔ InData g page
  pub names : (name : List ℕ) → get b.names.map name ≡ None
  pub inodes : length b.inodes.items ≡ g.inodes
  pub each : (ino : ℕ) (n : InodeState) → slice_get b.inodes.items ino ≡ Some n → IsFreshInode ino n
  pub table : b.fact.geometry ≡ g
  pub slots : b.fact.free.pages ≡ g.pages
  pub all_slots : (k : ℕ) → k < g.pages → Contains b.fact.free.free k
  pub queue : b.queue.items ≡ []
  pub clients : length b.flights.items ≡ 14
  pub idle : (k : ℕ) (f : Option Flight) → slice_get b.flights.items k ≡ Some f → f ≡ None
  pub sharing : b.sharing ≡ None
  pub zero_check : b.reclaiming.zero_check ≡ None
  pub raised : b.reclaiming.raised ≡ None
  pub releases : b.reclaiming.releases.items ≡ []
  pub waiting : b.reclaiming.waiting ≡ 0
  pub cleaning : b.reclaiming.cleaning ≡ None
  pub history : b.history.items ≡ []
  pub trace : b.trace.items ≡ []
  pub running : b.stopped ≡ false
  pub owed : b.owed ≡ record { units = 0; trace = 0; history = 0; queue = 0; releases = 0 }

-- it agrees with the disk without files, and is sound from it
abbrev pub FreshVolumesAgree : Type 0
FreshVolumesAgree = (g : Geometry) (b : Parts) (s : State) → IsFresh g b
    → StandsFast (empty_disk g) g s → Still s → IsVolume (empty_disk g) b s

abbrev pub FreshVolumesAreSound : Type 0
FreshVolumesAreSound = (g : Geometry) (print : Print) (b : Parts) (s : State) → IsFresh g b
    → StandsFast (empty_disk g) g s → IsOwn print (empty_disk g) → Agree s.now s.past
    → IsSound print (record { disk = empty_disk g; start = moment s.past; faults = s.faults })
    (empty_disk g) b s
