-- What events of reclaim on dying files, and a zero check, make of what is kept in memory.
use Rattle.std.specs.Prelude.{
  ◌≡◌,
  ◌≢◌,
  ◌⊎◌,
  ◌↔◌,
  ℕ,
  ◌+◌,
  ◌≤◌,
  List,
  [],
  ◌∷◌,
  ◌++◌,
  length,
  slice_get,
  Some,
  None,
  Contains,
  vec_len,
  vec_capacity,
}
use Rattle.std.specs.VecDeque.{deque_len, deque_capacity}
use Rattle.file_index.specs.Index.{CutsOff}
use Rattle.page_alloc.specs.Free.{FreePages, IsInOrder}
use Rattle.dn_volume.specs.declared.units.TheConstants.{FALL_UNITS, ZERO_CHECK_UNITS}
use Rattle.dn_volume.specs.declared.background.DyingPlace.{DyingPlace}
use Rattle.dn_volume.specs.declared.volume.InodeState.{InodeState}
use Rattle.dn_volume.specs.declared.volume.InodeUse.TheVariants as used
use Rattle.dn_volume.specs.declared.volume.Parts.{Parts}
use Rattle.dn_volume.specs.Events.{Counts}
use Rattle.count_events.specs.Released.{KeepsParts}

-- what belongs to operations and the daemon stays
pub record KeepsWork (b b' : Parts) : Type 0 where
  pub geometry : b'.geometry ≡ b.geometry
  pub names : b'.names ≡ b.names
  pub queue : b'.queue ≡ b.queue
  pub flights : b'.flights ≡ b.flights
  pub sharing : b'.sharing ≡ b.sharing
  pub history : b'.history ≡ b.history
  pub trace : b'.trace ≡ b.trace
  pub stopped : b'.stopped ≡ b.stopped
  pub owed_trace : b'.owed.trace ≡ b.owed.trace
  pub owed_history : b'.owed.history ≡ b.owed.history
  pub owed_queue : b'.owed.queue ≡ b.owed.queue
  pub cleaning : b'.reclaiming.cleaning ≡ b.reclaiming.cleaning
  pub made : Counts b b'

-- these pages became free, and nothing else changed
pub record Gives (given : ℕ → Type 0) (old new : FreePages) : Type 0 where
  pub pages : new.pages ≡ old.pages
  pub free : (page : ℕ) → Contains new.free page ↔ (Contains old.free page ⊎ given page)
  pub no_less : length old.free ≤ length new.free
  pub in_order : IsInOrder new

-- only the state of this inode is another
pub record ChangesOne (becomes : InodeState → InodeState → Type 0) (ino : ℕ)
    (old new : List InodeState) : Type 0 where
  pub all : length new ≡ length old
  pub others : (i : ℕ) → i ≢ ino → slice_get new i ≡ slice_get old i
  pub here : (x y : InodeState) → slice_get old ino ≡ Some x → slice_get new ino ≡ Some y
      → becomes x y

-- its cut fell to this place
pub record FallsTo (place : ℕ) (old new : InodeState) : Type 0 where
  pub used_is : new.used ≡ used.Dying place
  pub size : new.size ≡ old.size
  pub round : new.round ≡ old.round
  pub holder : new.holder ≡ old.holder
  pub log_pages : new.log_pages ≡ old.log_pages
  pub map : CutsOff place old.map new.map

-- it is free
pub record EndsState (old new : InodeState) : Type 0 where
  pub used_is : new.used ≡ used.Free
  pub size : new.size ≡ old.size
  pub round : new.round ≡ old.round
  pub holder : new.holder ≡ old.holder
  pub log_pages : new.log_pages ≡ old.log_pages
  pub map : new.map ≡ old.map

-- the zero check is made
pub record Checks (b b' : Parts) : Type 0 where
  pub kept : KeepsWork b b'
  pub inodes : b'.inodes ≡ b.inodes
  pub zero_check : b'.reclaiming.zero_check ≡ None
  pub raised : b'.reclaiming.raised ≡ b.reclaiming.raised
  pub releases : b'.reclaiming.releases ≡ b.reclaiming.releases
  pub waiting : b'.reclaiming.waiting + 1 ≡ b.reclaiming.waiting
  pub units : b'.owed.units + ZERO_CHECK_UNITS ≡ b.owed.units
  pub owed_releases : b'.owed.releases ≡ b.owed.releases

-- a place of a dying inode is raised, whose page's row has this word
pub record RaisesPlace (p : DyingPlace) (word : ℕ) (b b' : Parts) : Type 0 where
  pub kept : KeepsParts b b'
  pub flights : b'.flights.items ≡ b.flights.items
  pub sharing : b'.sharing ≡ b.sharing
  pub stopped : b'.stopped ≡ b.stopped
  pub releases : b'.reclaiming.releases ≡ b.reclaiming.releases
  pub raised : b'.reclaiming.raised ≡ Some p
  pub zero_check : b'.reclaiming.zero_check ≡ b.reclaiming.zero_check
  pub waiting : b'.reclaiming.waiting + 1 ≡ b.reclaiming.waiting
  pub trace : b'.trace.items ≡ b.trace.items ++ record { slot = p.slot; word = word } ∷ []
  pub trace_len : vec_len b'.trace ≡ vec_len b.trace + 1
  pub trace_capacity : vec_capacity b'.trace ≡ vec_capacity b.trace
  pub owed : b'.owed ≡ record b.owed {
    units = b.owed.units + FALL_UNITS;
    releases = b.owed.releases + 1;
  }
  pub made : Counts b b'

-- the raised place is gone, and its row waits to be released
pub record DropsPlace (p : DyingPlace) (b b' : Parts) : Type 0 where
  pub kept : KeepsWork b b'
  pub free : b'.free ≡ b.free
  pub fact : b'.fact ≡ b.fact
  pub inodes : ChangesOne (FallsTo p.place) p.ino b.inodes.items b'.inodes.items
  pub zero_check : b'.reclaiming.zero_check ≡ b.reclaiming.zero_check
  pub raised : b'.reclaiming.raised ≡ None
  pub releases : b'.reclaiming.releases.items ≡ b.reclaiming.releases.items ++ p.slot ∷ []
  pub len : deque_len b'.reclaiming.releases ≡ deque_len b.reclaiming.releases + 1
  pub capacity : deque_capacity b'.reclaiming.releases ≡ deque_capacity b.reclaiming.releases
  pub waiting : b'.reclaiming.waiting + 1 ≡ b.reclaiming.waiting
  pub units : b'.owed.units + FALL_UNITS ≡ b.owed.units
  pub owed_releases : b'.owed.releases + 1 ≡ b.owed.releases

-- a place on this page is gone, which is free
pub record FreesPlace (ino place page : ℕ) (b b' : Parts) : Type 0 where
  pub kept : KeepsWork b b'
  pub free : Gives (λ p. p ≡ page) b.free b'.free
  pub fact : b'.fact ≡ b.fact
  pub inodes : ChangesOne (FallsTo place) ino b.inodes.items b'.inodes.items
  pub zero_check : b'.reclaiming.zero_check ≡ b.reclaiming.zero_check
  pub raised : b'.reclaiming.raised ≡ b.reclaiming.raised
  pub releases : b'.reclaiming.releases ≡ b.reclaiming.releases
  pub waiting : b'.reclaiming.waiting + 4 ≡ b.reclaiming.waiting
  pub units : b'.owed.units ≡ b.owed.units
  pub owed_releases : b'.owed.releases ≡ b.owed.releases

-- an inode is free, but for the pages of its log
pub record EndsInode (ino : ℕ) (b b' : Parts) : Type 0 where
  pub kept : KeepsWork b b'
  pub fact : b'.fact ≡ b.fact
  pub inodes : ChangesOne EndsState ino b.inodes.items b'.inodes.items
  pub zero_check : b'.reclaiming.zero_check ≡ b.reclaiming.zero_check
  pub raised : b'.reclaiming.raised ≡ b.reclaiming.raised
  pub releases : b'.reclaiming.releases ≡ b.reclaiming.releases
  pub waiting : b'.reclaiming.waiting + 1 ≡ b.reclaiming.waiting
  pub units : b'.owed.units ≡ b.owed.units
  pub owed_releases : b'.owed.releases ≡ b.owed.releases
