-- What an event leaves of what is kept in memory: how much is the same before and after it. The
-- room that is kept, the
-- history and the number of calls made are told by each event itself.
use Rattle.std.specs.Prelude.{◌≡◌, ◌⊎◌, ◌↔◌, ℕ, List, length, slice_get, Some, None, Contains}
use Rattle.dn_volume.specs.declared.flight.Flight.{Flight}
use Rattle.dn_volume.specs.declared.volume.InodeState.{InodeState}
use Rattle.dn_volume.specs.declared.volume.Parts.{Parts}
use Rattle.dn_volume.specs.Parties.{taken_by}

-- an inode's use, size, places and round; not who holds it
pub record SameInode (n n' : InodeState) : Type 0 where
  pub used : n'.used ≡ n.used
  pub size : n'.size ≡ n.size
  pub places : n'.map.map ≡ n.map.map
  pub log_pages : n'.log_pages ≡ n.log_pages
  pub round : n'.round ≡ n.round

-- each inode's state becomes such a one
pub record OfInodes (P : ℕ → InodeState → InodeState → Type 0) (old new : List InodeState) : Type 0
  where
    pub all : length new ≡ length old
    pub each : (ino : ℕ) (n n' : InodeState) → slice_get old ino ≡ Some n
        → slice_get new ino ≡ Some n'
        → P ino n n'

-- it is the same, and who holds it too
pub record IsSameInode (ino : ℕ) (n n' : InodeState) : Type 0 where
  pub same : SameInode n n'
  pub holder : n'.holder ≡ n.holder

-- It is the same. What the operation holds was held by nobody, and is held by this actor; every
-- other one has the
-- holder that it had.
pub record IsHeldInode (who : ℕ) (f : Flight) (ino : ℕ) (n n' : InodeState) : Type 0 where
  pub same : SameInode n n'
  pub loose : Contains f.held.items ino → n.holder ≡ None
  pub held : Contains f.held.items ino → n'.holder ≡ Some who
  pub kept : (Contains f.held.items ino → ⊥) → n'.holder ≡ n.holder

-- What no begin touches: names, the table, the queue, the work of the daemon and of reclaim, and
-- the trace.
pub record SameWork (b b' : Parts) : Type 0 where
  pub geometry : b'.geometry ≡ b.geometry
  pub names : b'.names.map ≡ b.names.map
  pub fact : b'.fact ≡ b.fact
  pub queue : b'.queue.items ≡ b.queue.items
  pub sharing : b'.sharing ≡ b.sharing
  pub zero_check : b'.reclaiming.zero_check ≡ b.reclaiming.zero_check
  pub raised : b'.reclaiming.raised ≡ b.reclaiming.raised
  pub releases : b'.reclaiming.releases.items ≡ b.reclaiming.releases.items
  pub waiting : b'.reclaiming.waiting ≡ b.reclaiming.waiting
  pub cleaning : b'.reclaiming.cleaning ≡ b.reclaiming.cleaning
  pub trace : b'.trace.items ≡ b.trace.items
  pub stopped : b'.stopped ≡ b.stopped

-- Nothing but the room that is kept, the history and the number of calls may differ.
pub record SameButRoom (b b' : Parts) : Type 0 where
  pub work : SameWork b b'
  pub free : b'.free ≡ b.free
  pub inodes : OfInodes IsSameInode b.inodes.items b'.inodes.items
  pub flights : b'.flights.items ≡ b.flights.items

-- And this operation has taken its pages from the free ones, and holds its inodes.
pub record SameButBegun (who : ℕ) (f : Flight) (b b' : Parts) : Type 0 where
  pub work : SameWork b b'
  pub free : (page : ℕ) → Contains b.free.free page
      ↔ (Contains b'.free.free page ⊎ Contains (taken_by f) page)
  pub inodes : OfInodes (IsHeldInode who f) b.inodes.items b'.inodes.items
