-- What is stored past a log's tail before the tail moves.
use Rattle.std.specs.Prelude.{◌≡◌, ◌⊎◌, ℕ, ◌+◌, ◌*◌, ◌/◌, ◌%◌, ◌<◌, ◌≤◌, List, length, slice_index}
use Rattle.pm_device.specs.State.{State}
use Rattle.pm_device.specs.Settled.{StoresOnly, KeepsFlushed, Anyone}
use Rattle.pm_device.specs.Reading.{Said, IsReady}
use Rattle.pm_layout.specs.declared.Geometry.{Geometry}
use Rattle.pm_layout.specs.Geometry.{inode_word}
use Rattle.log_entry.specs.Spelling.{spelled}
use Rattle.dn_model.specs.Log.{Log, IsPaged, count, tail_at, log_word, footer_word, spelled_word}
use Rattle.dn_model.specs.Growth.{IsGrown, Prepared}

-- the log `new` is `old` with items of these slots, on these fresh pages; the tail of `old` is read
pub record IsToPrepare (g : Geometry) (ino : ℕ) (slots : List (List ℕ)) (fresh : List ℕ)
    (old new : Log) (s : State) : Type 0 where
  pub grown : IsGrown old new
  pub paged : IsPaged g old
  pub paged' : IsPaged g new
  pub slots_are : spelled grown.more ≡ slots
  pub fresh_are : grown.fresh ≡ fresh
  pub tail : slice_index s.now (inode_word ino 2) ≡ tail_at old.pages (count old)

pub record CanPrepare (g : Geometry) (ino : ℕ) (slots : List (List ℕ)) (fresh : List ℕ) (s : State)
    : Type 0 where
  pub old : Log
  pub new : Log
  pub is : IsToPrepare g ino slots fresh old new s

-- Only what is prepared was stored to; it stands and awaits this actor's fence.
pub record IsPreparedBy (who ino : ℕ) (old new : Log) (s t : State) : Type 0 where
  pub only : StoresOnly (Said (Prepared ino old new)) s t
  pub ready : IsReady who (Prepared ino old new) t
  pub keeps : KeepsFlushed Anyone (Said (Prepared ino old new)) s t

abbrev pub Prepares : Geometry → ℕ → ℕ → List (List ℕ) → List ℕ → State → State → Type 0
Prepares g who ino slots fresh s t = (old new : Log) → IsToPrepare g ino slots fresh old new s
    → IsPreparedBy who ino old new s t

abbrev pub IsNextTail : Geometry → ℕ → List (List ℕ) → List ℕ → State → ℕ → Type 0
IsNextTail g ino slots fresh s tail = (old new : Log) → IsToPrepare g ino slots fresh old new s
    → tail ≡ tail_at new.pages (count new)

-- the part of it that stands when the pages of p slots are linked and m slots are stored
pub data PreparedBelow (ino : ℕ) (old new : Log) (p m a v : ℕ) : Type 0 where
  below_head : count old ≡ 0 → 0 < p → a ≡ inode_word ino 1 → v ≡ slice_index new.pages 0
      → PreparedBelow ino old new p m a v
  below_footer : (k : ℕ) → length old.pages ≤ k + 1 → 63 * (k + 1) < p → a ≡ footer_word new.pages k
      → v ≡ slice_index new.pages (k + 1) → PreparedBelow ino old new p m a v
  below_slot : (k j : ℕ) → count old ≤ k → k < m → j < 8 → a ≡ log_word new.pages k j
      → v ≡ spelled_word new k j → PreparedBelow ino old new p m a v

-- on the way: m slots are stored, the tail is behind them, and so many fresh pages are used
pub record IsPreparedTo (who ino : ℕ) (old new : Log) (s0 : State) (m tail used : ℕ) (s : State) :
    Type 0 where
  pub more : count old ≤ m
  pub tail_is : tail ≡ tail_at new.pages m
  pub used_are : used + length old.pages ≡ (m + 62) / 63
  pub only : StoresOnly (Said (Prepared ino old new)) s0 s
  pub ready : IsReady who (PreparedBelow ino old new m m) s
  pub keeps : KeepsFlushed Anyone (Said (Prepared ino old new)) s0 s

-- and the page of the next slot is linked, whose line this is
pub record HasRoomAt (who ino : ℕ) (old new : Log) (s0 : State) (m line used : ℕ) (s : State) : Type
    0 where
  pub more : count old ≤ m
  pub line_is : line ≡ slice_index new.pages (m / 63) * 64 + m % 63
  pub used_are : used + length old.pages ≡ m / 63 + 1
  pub only : StoresOnly (Said (Prepared ino old new)) s0 s
  pub ready : IsReady who (PreparedBelow ino old new (m + 1) m) s
  pub keeps : KeepsFlushed Anyone (Said (Prepared ino old new)) s0 s

abbrev pub MakesRoom : Geometry → ℕ → ℕ → List (List ℕ) → List ℕ → ℕ → ℕ → ℕ → ℕ → State → State
    → Type 0
MakesRoom g who ino slots fresh tail used line used' s t = (old new : Log) (s0 : State) (m : ℕ)
    → IsToPrepare g ino slots fresh old new s0 → m < count new
    → IsPreparedTo who ino old new s0 m tail used s → HasRoomAt who ino old new s0 m line used' t

-- the page of a tail has no room left, or there is no page
abbrev pub IsFull : ℕ → Type 0
IsFull tail = (tail ≡ 0) ⊎ (tail % 64 ≡ 63)
