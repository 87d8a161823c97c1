-- What stays where only room is made, and an operation that is answered at once.
use Rattle.std.specs.Prelude.{
  ◌≡◌,
  ℕ,
  ◌+◌,
  ◌≤◌,
  ◌∷◌,
  [],
  ◌++◌,
  slice_get,
  Some,
  vec_len,
  vec_capacity,
}
use Rattle.std.specs.VecDeque.{deque_len, deque_capacity}
use Rattle.dn_model.specs.declared.op.Op.{Op}
use Rattle.dn_model.specs.declared.op.Reply.{Reply}
use Rattle.dn_volume.specs.declared.volume.InodeState.{InodeState}
use Rattle.dn_volume.specs.declared.volume.Parts.{Parts}
use Rattle.dn_volume.specs.Kept.{SameButRoom}
use Rattle.dn_volume.specs.Events.{Counts}

-- The room that was there for what is owed is there still. The history may have got an entry, and
-- the number of calls isn't told.
pub record KeepsRoom (b b' : Parts) : Type 0 where
  pub same : SameButRoom b b'
  pub owed : b'.owed ≡ b.owed
  pub trace : vec_len b.trace + b.owed.trace ≤ vec_capacity b.trace
      → vec_len b'.trace + b.owed.trace ≤ vec_capacity b'.trace
  pub history : vec_len b.history + b.owed.history ≤ vec_capacity b.history
      → vec_len b'.history + b.owed.history ≤ vec_capacity b'.history
  pub queue : b.queue.room ≤ b'.queue.room
  pub releases : deque_len b.reclaiming.releases + b.owed.releases ≤ deque_capacity
      b.reclaiming.releases
      → deque_len b'.reclaiming.releases + b.owed.releases ≤ deque_capacity b'.reclaiming.releases
  pub names : b.names.room ≤ b'.names.room
  pub places : (ino : ℕ) (n n' : InodeState) → slice_get b.inodes.items ino ≡ Some n
      → slice_get b'.inodes.items ino ≡ Some n' → n.map.room ≤ n'.map.room

-- the history has room for one entry more than it is owed
abbrev pub HasEntryRoom : Parts → Type 0
HasEntryRoom b = vec_len b.history + b.owed.history + 1 ≤ vec_capacity b.history

-- room for entries was made, and nothing else differs
pub record MakesEntryRoom (b b' : Parts) : Type 0 where
  pub parts : b' ≡ record b { history = b'.history }
  pub items : b'.history.items ≡ b.history.items
  pub len : vec_len b'.history ≡ vec_len b.history
  pub capacity : vec_capacity b.history ≤ vec_capacity b'.history

-- the operation enters the history with its reply, and this call is counted
pub record EntersHistory (who : ℕ) (op : Op) (reply : Reply) (b b' : Parts) : Type 0 where
  pub parts : b' ≡ record b { history = b'.history; made = b'.made }
  pub items : b'.history.items ≡ b.history.items ++ record { who = who; op = op; reply = reply }
      ∷ []
  pub len : vec_len b'.history ≡ vec_len b.history + 1
  pub capacity : vec_capacity b'.history ≡ vec_capacity b.history
  pub counts : Counts b b'
