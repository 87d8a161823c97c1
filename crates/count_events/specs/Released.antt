-- What becomes of what is kept in memory where a release is settled, and where a fence failed.
use Rattle.std.specs.Prelude.{
  ◌≡◌,
  ℕ,
  ◌+◌,
  true,
  if◌then◌else◌,
  ◌==◌,
  List,
  [],
  ◌∷◌,
  ◌++◌,
  Some,
  vec_len,
  vec_capacity,
}
use Rattle.std.specs.VecDeque.{deque_len, deque_capacity}
use Rattle.fingerprint.specs.Count.{count_word}
use Rattle.fingerprint.specs.declared.count.CountWord.{CountWord}
use Rattle.dn_model.specs.Table.{Row}
use Rattle.dn_model.specs.Disk.{Disk}
use Rattle.fact_table.specs.Table.{Table, IsTable, IsAtSlot}
use Rattle.dn_volume.specs.declared.units.TheConstants.{ZERO_CHECK_UNITS}
use Rattle.dn_volume.specs.declared.volume.Parts.{Parts}
use Rattle.dn_volume.specs.Events.{Counts}

-- what no change of counts touches
pub record KeepsParts (b b' : Parts) : Type 0 where
  pub geometry : b'.geometry ≡ b.geometry
  pub free : b'.free ≡ b.free
  pub names : b'.names.map ≡ b.names.map
  pub names_room : b'.names.room ≡ b.names.room
  pub inodes : b'.inodes.items ≡ b.inodes.items
  pub fact : b'.fact ≡ b.fact
  pub queue : b'.queue.items ≡ b.queue.items
  pub queue_room : b'.queue.room ≡ b.queue.room
  pub history : b'.history.items ≡ b.history.items
  pub history_len : vec_len b'.history ≡ vec_len b.history
  pub history_capacity : vec_capacity b'.history ≡ vec_capacity b.history
  pub cleaning : b'.reclaiming.cleaning ≡ b.reclaiming.cleaning

-- the first release is settled, and its row has this word
pub record SettlesRelease (slot word : ℕ) (b b' : Parts) : Type 0 where
  pub kept : KeepsParts b b'
  pub flights : b'.flights.items ≡ b.flights.items
  pub sharing : b'.sharing ≡ b.sharing
  pub stopped : b'.stopped ≡ b.stopped
  pub releases : b.reclaiming.releases.items ≡ slot ∷ b'.reclaiming.releases.items
  pub len : deque_len b'.reclaiming.releases + 1 ≡ deque_len b.reclaiming.releases
  pub capacity : deque_capacity b'.reclaiming.releases ≡ deque_capacity b.reclaiming.releases
  pub raised : b'.reclaiming.raised ≡ b.reclaiming.raised
  pub zero_check : b'.reclaiming.zero_check ≡ (if word == 0 then Some slot else
      b.reclaiming.zero_check)
  pub waiting : b'.reclaiming.waiting + (if word == 0 then 1 else 2) ≡ b.reclaiming.waiting
  pub trace : b'.trace.items ≡ b.trace.items ++ record { slot = slot; word = word } ∷ []
  pub trace_len : vec_len b'.trace ≡ vec_len b.trace + 1
  pub trace_capacity : vec_capacity b'.trace ≡ vec_capacity b.trace
  pub owed : b'.owed ≡ record b.owed
      { units = b.owed.units + (if word == 0 then ZERO_CHECK_UNITS else 0) }
  pub made : Counts b b'

-- a fence failed
pub record Stops (b b' : Parts) : Type 0 where
  pub geometry : b'.geometry ≡ b.geometry
  pub stopped : b'.stopped ≡ true
  pub flights : b'.flights.items ≡ b.flights.items
  pub sharing : b'.sharing ≡ b.sharing
  pub cleaning : b'.reclaiming.cleaning ≡ b.reclaiming.cleaning
  pub trace : b'.trace.items ≡ b.trace.items
  pub history : b'.history.items ≡ b.history.items
  pub made : Counts b b'

-- the word of the counts that f makes of the row at this slot
abbrev pub IsWordAfter : (Row → CountWord) → List ℕ → Table → ℕ → ℕ → Type 0
IsWordAfter f words t slot word = (d : Disk) (row : Row) → IsTable d words t → IsAtSlot d slot row
    → word ≡ count_word (f row).rfc (f row).uc
