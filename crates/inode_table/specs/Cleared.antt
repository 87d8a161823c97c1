-- What a crash leaves of an inode while it is cleared.
use Rattle.std.specs.Prelude.{◌≡◌, ◌⊎◌, ℕ, ◌<◌, List, length, slice_index}
use Rattle.pm_device.specs.State.{State}
use Rattle.pm_device.specs.Settled.{IsSettled}
use Rattle.pm_device.specs.Words.{IsIn}
use Rattle.pm_layout.specs.Geometry.{inode_word}

-- the head, the tail or the cut of an inode
abbrev pub IsLogField : ℕ → ℕ → Type 0
IsLogField ino a = IsIn (inode_word ino 1) 3 a

-- each of them is old or 0, and what was settled elsewhere is as it was
pub record LeavesCleared (ino : ℕ) (s : State) (c : List ℕ) : Type 0 where
  pub fields : (a : ℕ) → IsLogField ino a
      → (slice_index c a ≡ slice_index s.now a) ⊎ (slice_index c a ≡ 0)
  pub others : (a : ℕ) → a < length s.now → IsSettled s a → (IsLogField ino a → ⊥)
      → slice_index c a ≡ slice_index s.now a
