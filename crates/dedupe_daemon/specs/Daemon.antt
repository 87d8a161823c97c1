-- What events of the daemon that store no row make of what is kept in memory.
use Rattle.std.specs.Prelude.{◌≡◌, ℕ, ◌+◌, ◌*◌, Option, Some, None}
use Rattle.dedupe_queue.specs.declared.Work.{Work}
use Rattle.dedupe_queue.specs.Queue.{Pops}
use Rattle.dn_volume.specs.declared.units.TheConstants.{END_UNITS, PLACE_UNITS}
use Rattle.dn_volume.specs.declared.background.Sharing.{Sharing}
use Rattle.dn_volume.specs.declared.background.SharingStep.TheVariants.{Look}
use Rattle.dn_volume.specs.declared.volume.InodeState.{InodeState}
use Rattle.dn_volume.specs.declared.volume.Parts.{Parts}
use Rattle.dn_volume.specs.Events.{Counts}
use Rattle.reclaim.specs.Worked.{ChangesOne}

-- what belongs to operations and to reclaim stays, and so do the names, the table and the free
-- pages
pub record KeepsAll (b b' : Parts) : Type 0 where
  pub geometry : b'.geometry ≡ b.geometry
  pub free : b'.free ≡ b.free
  pub names : b'.names ≡ b.names
  pub fact : b'.fact ≡ b.fact
  pub flights : b'.flights ≡ b.flights
  pub reclaiming : b'.reclaiming ≡ b.reclaiming
  pub history : b'.history ≡ b.history
  pub trace : b'.trace ≡ b.trace
  pub stopped : b'.stopped ≡ b.stopped
  pub owed_history : b'.owed.history ≡ b.owed.history
  pub owed_queue : b'.owed.queue ≡ b.owed.queue
  pub owed_releases : b'.owed.releases ≡ b.owed.releases
  pub made : Counts b b'

-- an inode is held by this actor, or by nobody
pub record IsHeldBy (holder : Option ℕ) (old new : InodeState) : Type 0 where
  pub used : new.used ≡ old.used
  pub size : new.size ≡ old.size
  pub round : new.round ≡ old.round
  pub map : new.map ≡ old.map
  pub log_pages : new.log_pages ≡ old.log_pages
  pub holder_is : new.holder ≡ holder

-- the front item, which was stale, is gone from the queue
pub record PopsStale (work : Work) (b b' : Parts) : Type 0 where
  pub kept : KeepsAll b b'
  pub inodes : b'.inodes ≡ b.inodes
  pub sharing : b'.sharing ≡ b.sharing
  pub queue : Pops work b.queue b'.queue
  pub units : b'.owed.units ≡ b.owed.units
  pub trace : b'.owed.trace ≡ b.owed.trace

-- the front item is begun: its inode is held, and it is owed its room
pub record BeginsItem (sharing : Sharing) (b b' : Parts) : Type 0 where
  pub kept : KeepsAll b b'
  pub inodes : ChangesOne (IsHeldBy (Some 15)) sharing.work.ino b.inodes.items b'.inodes.items
  pub begun : b'.sharing ≡ Some sharing
  pub queue : Pops sharing.work b.queue b'.queue
  pub units : b'.owed.units ≡ b.owed.units + END_UNITS + PLACE_UNITS * sharing.count
  pub trace : b'.owed.trace ≡ b.owed.trace + 2 * sharing.count

-- the item is ended, and its inode is let go
pub record EndsItem (ino : ℕ) (b b' : Parts) : Type 0 where
  pub kept : KeepsAll b b'
  pub inodes : ChangesOne (IsHeldBy None) ino b.inodes.items b'.inodes.items
  pub ended : b'.sharing ≡ None
  pub queue : b'.queue ≡ b.queue
  pub units : b'.owed.units + END_UNITS ≡ b.owed.units
  pub trace : b'.owed.trace ≡ b.owed.trace

-- the item, with one place more that is done
abbrev pub after_place : Sharing → Sharing
after_place sharing = record sharing { done = sharing.done + 1; step = Look }

-- the place that was looked at is done
pub record PassesPlace (sharing : Sharing) (b b' : Parts) : Type 0 where
  pub kept : KeepsAll b b'
  pub inodes : b'.inodes ≡ b.inodes
  pub passed : b'.sharing ≡ Some (after_place sharing)
  pub queue : b'.queue ≡ b.queue
  pub units : b'.owed.units + PLACE_UNITS ≡ b.owed.units
  pub trace : b'.owed.trace + 2 ≡ b.owed.trace
