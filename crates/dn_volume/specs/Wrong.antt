-- Each group of the invariant refuses something: a volume without files in which one part is wrong.
use Rattle.std.specs.Prelude.{◌≡◌, ℕ, ◌+◌, ◌<◌, ◌≤◌, true, List, [], ◌∷◌, length, slice_get, Some, None}
use Rattle.std.specs.FinMap.{get}
use Rattle.pm_device.specs.State.{State}
use Rattle.pm_device.specs.Settled.{IsSettled}
use Rattle.pm_layout.specs.declared.Geometry.{Geometry}
use Rattle.pm_layout.specs.Geometry.{slots}
use Rattle.log_entry.specs.declared.item.Flag.TheVariants.{Complete}
use Rattle.dn_model.specs.Maps.{Mapping}
use Rattle.dn_model.specs.Disk.{Disk}
use Rattle.dn_model.specs.Own.{LivePlace}
use Rattle.dn_model.specs.Empty.{empty_disk}
use Rattle.dn_volume.specs.declared.background.Cleaning.{Cleaning}
use Rattle.dn_volume.specs.declared.background.Sharing.{Sharing}
use Rattle.dn_volume.specs.declared.volume.InodeState.{InodeState}
use Rattle.dn_volume.specs.declared.volume.Parts.{Parts}
use Rattle.dn_volume.specs.Shares.{IsQueued}
use Rattle.dn_volume.specs.Agrees.{StandsFast, HasNoStale, IsVolume}
use Rattle.dn_volume.specs.Fresh.{IsFresh}

-- with these parts in place of its own it agrees with no empty disk
abbrev pub Refused : Geometry → Parts → State → Type 0
Refused g b s = IsVolume (empty_disk g) b s → ⊥

pub record RefusesWrong (g : Geometry) (b : Parts) (s : State) : Type 0 where
  pub fast : Refused g b (record s { now = [] })
  pub running : Refused g (record b { stopped = true }) s
  pub names : (c : Parts) (name : List ℕ) (ino : ℕ) → c ≡ record b { names = c.names }
      → get c.names.map name ≡ Some ino → Refused g c s
  pub inodes : (c : Parts) → c ≡ record b { inodes = c.inodes } → length c.inodes.items ≡ 0
      → Refused g c s
  pub holders : (c : Parts) (n : InodeState) (who : ℕ) → c ≡ record b { inodes = c.inodes }
      → slice_get c.inodes.items 0 ≡ Some n → n.holder ≡ Some who → Refused g c s
  pub space : Refused g (record b { free = record b.free { free = [] } }) s
  pub table : Refused g (record b { fact = record b.fact { free = record b.fact.free { pages = 0 } } }) s
  pub counts : (c : Parts) (slot : ℕ) → c ≡ record b { reclaiming = c.reclaiming }
      → c.reclaiming.releases.items ≡ slot ∷ [] → Refused g c s
  pub flights : (c : Parts) → c ≡ record b { flights = c.flights } → length c.flights.items ≡ 0
      → Refused g c s
  pub sharing : (item : Sharing) → Refused g (record b { sharing = Some item }) s
  pub reclaiming : Refused g (record b { reclaiming = record b.reclaiming { waiting = 1 } }) s
  pub cleaning : (c : Cleaning)
      → Refused g (record b { reclaiming = record b.reclaiming { cleaning = Some c } }) s
  pub room : Refused g (record b { owed = record b.owed { units = s.spare + 1 } }) s
  pub trace : (c : Parts) (word : ℕ) → c ≡ record b { trace = c.trace }
      → c.trace.items ≡ record { slot = slots g; word = word } ∷ [] → Refused g c s
  pub still : (a : ℕ) → a < length s.now → (IsSettled s a → ⊥) → Refused g b s

abbrev pub WrongPartsAreRefused : Type 0
WrongPartsAreRefused = (g : Geometry) (b : Parts) (s : State) → IsFresh g b
    → StandsFast (empty_disk g) g s → RefusesWrong g b s

-- A place that is to be shared and doesn't wait is refused, and so is a pointer to no row: a disk
-- without files has neither.
abbrev pub LeftOutPlacesAreRefused : Type 0
LeftOutPlacesAreRefused = (d : Disk) (b : Parts) (ino idx : ℕ) (m : Mapping) → LivePlace d ino idx m
    → (m.flag ≡ Complete → ⊥) → b.queue.items ≡ [] → b.sharing ≡ None → IsQueued d b → ⊥

abbrev pub StalePointersAreRefused : Type 0
StalePointersAreRefused = (g : Geometry) → 1 ≤ g.pages
    → HasNoStale (record (empty_disk g) { pointer = λ page. 1 }) → ⊥
