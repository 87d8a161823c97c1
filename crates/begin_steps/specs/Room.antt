-- Room is made for an operation that begins.
use Rattle.std.specs.Prelude.{◌≡◌, ℕ, ◌+◌, ◌^◌, ◌<◌, ◌≤◌, slice_get, Some, vec_len, vec_capacity}
use Rattle.std.specs.VecDeque.{deque_len, deque_capacity}
use Rattle.dn_volume.specs.declared.volume.InodeState.{InodeState}
use Rattle.dn_volume.specs.declared.volume.Parts.{Parts}
use Rattle.dn_volume.specs.declared.volume.Room.{Room}
use Rattle.dn_volume.specs.Kept.{OfInodes}

-- two rooms together
abbrev pub add_room : Room → Room → Room
add_room r s = record {
  units = r.units + s.units;
  trace = r.trace + s.trace;
  history = r.history + s.history;
  queue = r.queue + s.queue;
  releases = r.releases + s.releases;
}

-- each kind is a number of 64 bits
pub record FitsRoom (r : Room) : Type 0 where
  pub units : r.units < 2 ^ 64
  pub trace : r.trace < 2 ^ 64
  pub history : r.history < 2 ^ 64
  pub queue : r.queue < 2 ^ 64
  pub releases : r.releases < 2 ^ 64

-- room was made in memory, and nothing else differs
pub record MakesRoom (b b' : Parts) : Type 0 where
  pub parts : b' ≡ record b {
    trace = b'.trace;
    history = b'.history;
    queue = b'.queue;
    names = b'.names;
    reclaiming = record b.reclaiming { releases = b'.reclaiming.releases };
  }
  pub trace : b'.trace.items ≡ b.trace.items
  pub trace_len : vec_len b'.trace ≡ vec_len b.trace
  pub trace_capacity : vec_capacity b.trace ≤ vec_capacity b'.trace
  pub history : b'.history.items ≡ b.history.items
  pub history_len : vec_len b'.history ≡ vec_len b.history
  pub history_capacity : vec_capacity b.history ≤ vec_capacity b'.history
  pub queue : b'.queue.items ≡ b.queue.items
  pub queue_room : b.queue.room ≤ b'.queue.room
  pub names : b'.names.map ≡ b.names.map
  pub names_room : b.names.room ≤ b'.names.room
  pub releases : b'.reclaiming.releases.items ≡ b.reclaiming.releases.items
  pub releases_len : deque_len b'.reclaiming.releases ≡ deque_len b.reclaiming.releases
  pub releases_capacity : deque_capacity b.reclaiming.releases ≤ deque_capacity
      b'.reclaiming.releases

-- memory has this room beside what is there; the index of names has it for each entry
pub record HasRoomOf (all : Room) (b : Parts) : Type 0 where
  pub trace : vec_len b.trace + all.trace ≤ vec_capacity b.trace
  pub history : vec_len b.history + all.history ≤ vec_capacity b.history
  pub queue : all.queue ≤ b.queue.room
  pub names : all.history ≤ b.names.room
  pub releases : deque_len b.reclaiming.releases + all.releases ≤ deque_capacity
      b.reclaiming.releases

-- and for more than what is owed
pub record HasRoomFor (more : Room) (b : Parts) : Type 0 where
  pub fits : FitsRoom (add_room b.owed more)
  pub has : HasRoomOf (add_room b.owed more) b

-- the map of an inode's places has more room, and nothing else of it differs
pub record HasMoreRoom (ino : ℕ) (n n' : InodeState) : Type 0 where
  pub node : n' ≡ record n { map = n'.map }
  pub map : n'.map.map ≡ n.map.map
  pub room : n.map.room ≤ n'.map.room

-- so it is with each, and nothing else differs
pub record MakesPlaceRoom (b b' : Parts) : Type 0 where
  pub parts : b' ≡ record b { inodes = b'.inodes }
  pub inodes : OfInodes HasMoreRoom b.inodes.items b'.inodes.items

-- the inode's map has room for so many places
abbrev pub HasPlaceRoom : ℕ → ℕ → Parts → Type 0
HasPlaceRoom ino places b = (n : InodeState) → slice_get b.inodes.items ino ≡ Some n
    → places ≤ n.map.room
