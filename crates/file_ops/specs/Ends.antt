-- What the end of a write or a cut makes of the disk, and of what is kept in memory.
use Rattle.std.specs.Prelude.{
  ◌≡◌,
  ◌≢◌,
  ◌⊎◌,
  ◌↔◌,
  ℕ,
  ◌+◌,
  ◌-◌,
  ◌*◌,
  ◌<◌,
  ◌≤◌,
  List,
  [],
  ◌∷◌,
  ◌++◌,
  length,
  slice_get,
  slice_index,
  Some,
  None,
  IsNone,
  Contains,
  vec_len,
  vec_capacity,
}
use Rattle.std.specs.Option.{option_map}
use Rattle.std.specs.FinMap.{get}
use Rattle.std.specs.VecDeque.{deque_len, deque_capacity}
use Rattle.page_alloc.specs.Free.{IsInOrder}
use Rattle.dedupe_queue.specs.declared.Work.{Work}
use Rattle.file_content.specs.Content.{kept}
use Rattle.dn_model.specs.Maps.{Mapping}
use Rattle.dn_model.specs.Table.{row_of}
use Rattle.dn_model.specs.Disk.{Disk, maps, rows}
use Rattle.dn_model.specs.declared.op.Entry.{Entry}
use Rattle.law_write.specs.Writing.{Writes, WritesWell}
use Rattle.law_cut.specs.DropLaws.{Drops}
use Rattle.dn_volume.specs.declared.flight.Flight.{Flight}
use Rattle.dn_volume.specs.declared.flight.DataChange.{DataChange}
use Rattle.dn_volume.specs.declared.volume.InodeState.{InodeState}
use Rattle.dn_volume.specs.declared.volume.Parts.{Parts}
use Rattle.dn_volume.specs.Planned.{row_slots}
use Rattle.dn_volume.specs.Replaces.{Replaces, MovesOwed}

-- The disk of after: the file's places from this one on, n of them, are mapped to the pages of the
-- flight or go.
pub record ChangesData (d e : Disk) (f : Flight) (c : DataChange) (from n : ℕ) : Type 0 where
  pub event : Writes f.ino d e
  pub well : WritesWell f.ino d e event
  pub drops : Drops f.ino d e event from n
  pub rows_are : f.rows.items ≡ row_slots d f.ino from n
  pub takes : event.grown.fresh ≡ f.fresh.items
  pub places : event.n ≡ length c.blocks.items
  pub blocks : (i : ℕ) → i < event.n → event.blocks i ≡ slice_index c.blocks.items i
  pub ends : event.size ≡ c.size

-- one of these places is on the page, which has no row
pub record IsFreed (d : Disk) (ino from n page : ℕ) : Type 0 where
  pub i : ℕ
  pub below : i < n
  pub by : Mapping
  pub was : maps d ino (from + i) ≡ Some by
  pub block : by.block ≡ page
  pub no_row : IsNone (row_of (rows d) page)

-- the inode is let go, and the rest that is kept of it is the disk's
pub record EndsInode (e : Disk) (ino size : ℕ) (old new : InodeState) : Type 0 where
  pub used : new.used ≡ old.used
  pub size_is : new.size ≡ size
  pub log_pages : length (e.inode ino).log.pages ≡ new.log_pages
  pub round : new.round ≡ old.round
  pub holder : new.holder ≡ None
  pub places : (idx : ℕ) → get new.map.map idx ≡ option_map kept (maps e ino idx)

-- what of the parts has nothing to do with it
pub record KeepsParts (b b' : Parts) : Type 0 where
  pub geometry : b'.geometry ≡ b.geometry
  pub names : b'.names ≡ b.names
  pub fact : b'.fact ≡ b.fact
  pub trace : b'.trace ≡ b.trace
  pub stopped : b'.stopped ≡ b.stopped
  pub raised : b'.reclaiming.raised ≡ b.reclaiming.raised
  pub zero_check : b'.reclaiming.zero_check ≡ b.reclaiming.zero_check

-- only this inode's state is another
pub record ChangesInode (e : Disk) (ino size : ℕ) (b b' : Parts) : Type 0 where
  pub all : length b'.inodes.items ≡ length b.inodes.items
  pub others : (i : ℕ) → i ≢ ino → slice_get b'.inodes.items i ≡ slice_get b.inodes.items i
  pub here : (old new : InodeState) → slice_get b.inodes.items ino ≡ Some old
      → slice_get b'.inodes.items ino ≡ Some new → EndsInode e ino size old new

-- the spare page and the pages that come free are free
pub record GivesPages (d : Disk) (f : Flight) (from n : ℕ) (b b' : Parts) : Type 0 where
  pub pages : b'.free.pages ≡ b.free.pages
  pub in_order : IsInOrder b'.free
  pub free : (page : ℕ) → Contains b'.free.free page ↔
      (Contains b.free.free page ⊎ Contains f.spare.items page ⊎ IsFreed d f.ino from n page)
  pub no_less : length b.free.free ≤ length b'.free.free

-- its rows wait to be released
pub record Releases (f : Flight) (b b' : Parts) : Type 0 where
  pub items : b'.reclaiming.releases.items ≡ b.reclaiming.releases.items ++ f.rows.items
  pub waiting : b'.reclaiming.waiting ≡ b.reclaiming.waiting + 2 * length f.rows.items
  pub room : deque_len b'.reclaiming.releases ≡ deque_len b.reclaiming.releases + length
      f.rows.items
  pub capacity : deque_capacity b.reclaiming.releases ≤ deque_capacity b'.reclaiming.releases

-- its items wait for the daemon
pub record Queues (e : Disk) (ino from n runs : ℕ) (b b' : Parts) : Type 0 where
  pub more : List Work
  pub items : b'.queue.items ≡ b.queue.items ++ more
  pub each : (idx : ℕ) (m : Mapping) (node : InodeState) → from ≤ idx → idx < from + n
      → maps e ino idx ≡ Some m → slice_get b.inodes.items ino ≡ Some node
      → Contains more (record { ino = ino; round = node.round; slot = m.slot })
  pub room : b.queue.room ≤ b'.queue.room + runs

-- it is in the history
pub record Enters (entry : Entry) (b b' : Parts) : Type 0 where
  pub items : b'.history.items ≡ b.history.items ++ entry ∷ []
  pub room : vec_len b'.history ≡ vec_len b.history + 1
  pub capacity : vec_capacity b.history ≤ vec_capacity b'.history

-- all of it: what was owed to it is owed no more
pub record Ends (d e : Disk) (who : ℕ) (f : Flight) (c : DataChange) (from n : ℕ) (b b' : Parts) :
    Type 0 where
  pub keeps : KeepsParts b b'
  pub flight : Replaces (who - 1) (Some f) None b b'
  pub inode : ChangesInode e f.ino c.size b b'
  pub pages : GivesPages d f from n b b'
  pub releases : Releases f b b'
  pub queue : Queues e f.ino from n (length c.runs.items) b b'
  pub history : (entry : Entry) × Enters entry b b'
  pub owed : MovesOwed (Some f) None b b'
