-- A flight ends: its inode is let go.
use Rattle.std.specs.Prelude.{
  ◌≡◌,
  ◌≢◌,
  ℕ,
  ◌+◌,
  ◌*◌,
  ◌<◌,
  ◌≤◌,
  List,
  [],
  ◌∷◌,
  ◌++◌,
  length,
  slice_get,
  Some,
  None,
  All,
  Contains,
  vec_len,
  vec_capacity,
}
use Rattle.std.specs.VecDeque.{deque_len, deque_capacity}
use Rattle.page_alloc.specs.Free.{IsInOrder}
use Rattle.file_content.specs.Pages.{AreApart}
use Rattle.dn_model.specs.declared.op.Reply.TheVariants.{Done}
use Rattle.law_write.specs.Runs.{places_in}
use Rattle.file_ops.specs.Giving.{Gives, QueuesSlots}
use Rattle.file_content.specs.Content.{IsFileOf}
use Rattle.file_content.specs.Runs.{all_seen}
use Rattle.file_content.specs.declared.runs.Run.{Run}
use Rattle.dn_model.specs.Log.{count, tail_at}
use Rattle.dn_model.specs.Disk.{Disk}
use Rattle.dn_model.specs.declared.op.Op.TheVariants.{Write}
use Rattle.law_write.specs.MayWrite.{MayWrite, written_disk}
use Rattle.dn_volume.specs.declared.flight.Flight.{Flight}
use Rattle.dn_volume.specs.declared.flight.Change.TheVariants.{Data}
use Rattle.dn_volume.specs.declared.flight.DataChange.{DataChange}
use Rattle.dn_volume.specs.declared.volume.InodeState.{InodeState}
use Rattle.dn_volume.specs.declared.volume.Parts.{Parts}
use Rattle.dn_volume.specs.declared.units.TheConstants.{SLOT_UNITS, TAIL_UNITS}
use Rattle.dn_volume.specs.Reserve.{slots_of}
use Rattle.dn_volume.specs.Parties.{Flies}

-- the client's write is in flight, all its pages are filled, and all its rows are raised
pub record IsLastOfWrite (b : Parts) (who : ℕ) : Type 0 where
  pub flight : Flight
  pub flies : Flies b who flight
  pub change : DataChange
  pub kind : flight.change ≡ Data change
  pub name : List ℕ
  pub at : ℕ
  pub text : List ℕ
  pub op_is : flight.op ≡ Write name at text
  pub all_filled : change.filled ≡ length change.blocks.items
  pub all_raised : flight.raised ≡ length flight.rows.items

-- the inode has this size and is let go, and its log has these pages more; the places of the runs
-- are mapped by the items past this tail
pub record MapsInode (ino size tail : ℕ) (fresh : List ℕ) (runs : List Run) (old new : InodeState) :
    Type 0 where
  pub used : new.used ≡ old.used
  pub size_is : new.size ≡ size
  pub log_pages : new.log_pages ≡ old.log_pages + length fresh
  pub round : new.round ≡ old.round
  pub holder : new.holder ≡ None
  pub file : (d : Disk) (old_size first : ℕ) (word : ℕ → ℕ → ℕ)
      → IsFileOf d ino old_size old.map.map → MayWrite d ino fresh first size (all_seen runs) word
      → tail ≡ tail_at (d.inode ino).log.pages (count (d.inode ino).log) → old_size ≤ size
      → IsFileOf (written_disk d ino fresh size (all_seen runs) word) ino size new.map.map

-- that of others is what it was
pub record MapsAt (ino size tail : ℕ) (fresh : List ℕ) (runs : List Run) (old new : List InodeState)
    : Type 0 where
  pub all : length new ≡ length old
  pub others : (i : ℕ) → i ≢ ino → slice_get new i ≡ slice_get old i
  pub here : (x y : InodeState) → slice_get old ino ≡ Some x → slice_get new ino ≡ Some y
      → MapsInode ino size tail fresh runs x y

-- What the end of a write or a cut does to the parts, after the pages that come free and the flight
-- itself. The inodes' states change so.
pub record FinishesBy (inodes_end : List InodeState → List InodeState → Type 0) (who tail : ℕ)
    (f : Flight) (c : DataChange) (b b' : Parts) : Type 0 where
  pub geometry : b'.geometry ≡ b.geometry
  pub names : b'.names ≡ b.names
  pub fact : b'.fact ≡ b.fact
  pub trace : b'.trace ≡ b.trace
  pub sharing : b'.sharing ≡ b.sharing
  pub stopped : b'.stopped ≡ b.stopped
  pub raised : b'.reclaiming.raised ≡ b.reclaiming.raised
  pub zero_check : b'.reclaiming.zero_check ≡ b.reclaiming.zero_check
  pub cleaning : b'.reclaiming.cleaning ≡ b.reclaiming.cleaning
  pub flights : b'.flights ≡ b.flights
  pub made : b'.made ≡ b.made
  pub free : Gives (Contains f.spare.items) b.free b'.free
  pub queue : (n : InodeState) → slice_get b.inodes.items f.ino ≡ Some n
      → QueuesSlots f.ino n.round tail f.fresh.items (length c.runs.items) b.queue b'.queue
  pub inodes : inodes_end b.inodes.items b'.inodes.items
  pub releases : b'.reclaiming.releases.items ≡ b.reclaiming.releases.items ++ f.rows.items
  pub releases_len : deque_len b'.reclaiming.releases ≡ deque_len b.reclaiming.releases + length
      f.rows.items
  pub releases_capacity : deque_capacity b'.reclaiming.releases ≡ deque_capacity
      b.reclaiming.releases
  pub waiting : b'.reclaiming.waiting ≡ b.reclaiming.waiting + 2 * length f.rows.items
  pub units : b'.owed.units + (SLOT_UNITS * slots_of f + TAIL_UNITS) ≡ b.owed.units
  pub owed_trace : b'.owed.trace ≡ b.owed.trace
  pub owed_history : b'.owed.history + 1 ≡ b.owed.history
  pub owed_queue : b'.owed.queue + length c.runs.items ≡ b.owed.queue
  pub owed_releases : b'.owed.releases + length f.rows.items ≡ b.owed.releases
  pub history : b'.history.items ≡ b.history.items ++ record { who = who; op = f.op; reply = Done }
      ∷ []
  pub history_len : vec_len b'.history ≡ vec_len b.history + 1
  pub history_capacity : vec_capacity b'.history ≡ vec_capacity b.history

-- at the end of a write, the places of its runs are mapped
abbrev pub FinishesParts : (who tail : ℕ) → Flight → DataChange → Parts → Parts → Type 0
FinishesParts who tail f c b b' = FinishesBy
    (MapsAt f.ino c.size tail f.fresh.items c.runs.items) who tail f c b b'

-- there is room for all of it
pub record CanFinish (tail : ℕ) (f : Flight) (c : DataChange) (b : Parts) : Type 0 where
  pub kind : f.change ≡ Data c
  pub spare_below : (page : ℕ) → Contains f.spare.items page → page < b.free.pages
  pub spare_taken : (page : ℕ) → Contains f.spare.items page → ¬ Contains b.free.free page
  pub spare_apart : AreApart f.spare.items
  pub in_order : IsInOrder b.free
  pub queue : length c.runs.items ≤ b.queue.room
  pub there : f.ino < length b.inodes.items
  pub room : (n : InodeState) → slice_get b.inodes.items f.ino ≡ Some n
      → places_in (all_seen c.runs.items) ≤ n.map.room
  pub places : All (λ (run : Run). run.first + run.count ≤ 4096) c.runs.items
  pub blocks : All (λ (run : Run). run.block + run.count ≤ 65536) c.runs.items
  pub tail_small : tail < 4194304
  pub fresh : All (λ page. page < 65536) f.fresh.items
  pub log_pages : (n : InodeState) → slice_get b.inodes.items f.ino ≡ Some n
      → n.log_pages + length f.fresh.items < 18446744073709551616
  pub releases : deque_len b.reclaiming.releases + length f.rows.items ≤ deque_capacity
      b.reclaiming.releases
  pub waiting : b.reclaiming.waiting + 2 * length f.rows.items < 18446744073709551616
  pub units : SLOT_UNITS * slots_of f + TAIL_UNITS ≤ b.owed.units
  pub owed_history : 1 ≤ b.owed.history
  pub owed_queue : length c.runs.items ≤ b.owed.queue
  pub owed_releases : length f.rows.items ≤ b.owed.releases
  pub history : vec_len b.history < vec_capacity b.history
