-- A cleaning ends: what becomes of what is kept in memory.
use Rattle.std.specs.Prelude.{
  ◌≡◌,
  ◌⊎◌,
  ℕ,
  ◌+◌,
  List,
  ◌++◌,
  length,
  map,
  slice_get,
  Some,
  None,
}
use Rattle.std.specs.Ordering.{nat_cmp}
use Rattle.dedupe_queue.specs.declared.Work.{Work}
use Rattle.file_index.specs.Index.{Index}
use Rattle.file_index.specs.declared.page_map.Mapping.{Mapping}
use Rattle.dn_volume.specs.declared.units.TheConstants.{REPLACE_UNITS}
use Rattle.dn_volume.specs.declared.background.Cleaning.{Cleaning}
use Rattle.dn_volume.specs.declared.volume.InodeState.{InodeState}
use Rattle.dn_volume.specs.declared.volume.Parts.{Parts}
use Rattle.dn_volume.specs.Events.{Counts}
use Rattle.reclaim.specs.Worked.{ChangesOne}

-- one round more, unless there is no greater number
abbrev pub NextRound : ℕ → ℕ → Type 0
NextRound old new = (new ≡ old + 1) ⊎ ((old ≡ 18446744073709551615) × (new ≡ old))

-- an inode has a new log of so many pages, whose items map its places so, and nobody holds it
pub record HasNewLog (pages : ℕ) (places : Index nat_cmp Mapping) (old new : InodeState) : Type 0
  where
    pub used : new.used ≡ old.used
    pub size : new.size ≡ old.size
    pub map_is : new.map ≡ places
    pub log_pages : new.log_pages ≡ pages
    pub round : NextRound old.round new.round
    pub holder : new.holder ≡ None

-- the inode of the cleaning has its new log, and only its state is another
abbrev pub RelogsOne : Cleaning → List InodeState → List InodeState → Type 0
RelogsOne c = ChangesOne (HasNewLog (length c.pages.items) c.map) c.ino

-- the items at these slots wait, in this round of the inode
abbrev pub due_works : ℕ → ℕ → List ℕ → List Work
due_works ino round = map (λ slot. record { ino = ino; round = round; slot = slot })

-- what is due waits behind all else
pub record QueuesDue (c : Cleaning) (b b' : Parts) : Type 0 where
  pub node : InodeState
  pub at : slice_get b'.inodes.items c.ino ≡ Some node
  pub items : b'.queue.items ≡ b.queue.items ++ due_works c.ino node.round c.due.items
  pub room : b'.queue.room + length c.due.items ≡ b.queue.room

-- The cleaning is ended, but for the pages of the old log; it was taken out before.
pub record EndsCleaning (c : Cleaning) (b b' : Parts) : Type 0 where
  pub geometry : b'.geometry ≡ b.geometry
  pub free : b'.free ≡ b.free
  pub names : b'.names ≡ b.names
  pub inodes : RelogsOne c b.inodes.items b'.inodes.items
  pub fact : b'.fact ≡ b.fact
  pub queue : QueuesDue c b b'
  pub flights : b'.flights ≡ b.flights
  pub sharing : b'.sharing ≡ b.sharing
  pub reclaiming : b'.reclaiming ≡ b.reclaiming
  pub history : b'.history ≡ b.history
  pub trace : b'.trace ≡ b.trace
  pub stopped : b'.stopped ≡ b.stopped
  pub units : b'.owed.units + REPLACE_UNITS ≡ b.owed.units
  pub owed_trace : b'.owed.trace ≡ b.owed.trace
  pub owed_history : b'.owed.history ≡ b.owed.history
  pub owed_queue : b'.owed.queue + length c.due.items ≡ b.owed.queue
  pub owed_releases : b'.owed.releases ≡ b.owed.releases
  pub made : Counts b b'
