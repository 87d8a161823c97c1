-- A log that was written whole comes in the place of an inode's log.
use Rattle.std.specs.Prelude.{◌≡◌, ◌⊎◌, ℕ, List, [], ◌∷◌, length, slice_index}
use Rattle.pm_device.specs.State.{State}
use Rattle.pm_device.specs.Settled.{LeavesOnly}
use Rattle.pm_device.specs.Reading.{Stands}
use Rattle.pm_device.specs.Pages.{IsInPage}
use Rattle.pm_layout.specs.declared.Geometry.{Geometry}
use Rattle.pm_layout.specs.Geometry.{inode_word}
use Rattle.dn_model.specs.Log.{Log, count, tail_at}
use Rattle.dn_model.specs.Disk.{Disk, DiskSays}
use Rattle.dn_model.specs.Image.{StandsFor}
use Rattle.name_journal.specs.declared.change.Change.{Change}
use Rattle.law_log_swap.specs.Relogged.{relogged}
use Rattle.law_log_swap.specs.Replaced.{MayReplace}
use Rattle.log_replace.specs.Bodies.{BodyTo}

-- The device stands for the disk, of which this inode's log may be replaced by this one, with this
-- head and this tail; and all pages of the new log stand.
pub record IsReadyToReplace (g : Geometry) (ino head tail : ℕ) (d : Disk) (log : Log) (s : State) :
    Type 0 where
  pub geometry : d.geometry ≡ g
  pub may : MayReplace d ino log
  pub head_is : head ≡ slice_index log.pages 0
  pub tail_is : tail ≡ tail_at log.pages (count log)
  pub stands : Stands (DiskSays d) s
  pub body : Stands (BodyTo log (length log.pages)) s

-- on the way a stop leaves an image of before, or one of the disk with the new log
abbrev pub ReplacesBetween : Geometry → (ino head tail : ℕ) → State → State → Type 0
ReplacesBetween g ino head tail s t = (d : Disk) (log : Log)
    → IsReadyToReplace g ino head tail d log s
    → LeavesOnly s t (λ c. StandsFor c d ⊎ StandsFor c (relogged d ino log))

-- in the end the device stands for the disk with the new log
abbrev pub ReplacesLog : Geometry → (ino head tail : ℕ) → State → State → Type 0
ReplacesLog g ino head tail s t = (d : Disk) (log : Log) → IsReadyToReplace g ino head tail d log s
    → Stands (DiskSays (relogged d ino log)) t

-- a log's head and tail are made these
abbrev pub end_changes : (ino head tail : ℕ) → List Change
end_changes ino head tail = record { at = inode_word ino 1; value = head } ∷ record
    { at = inode_word ino 2; value = tail } ∷ []

-- the head or the tail of the inode's log, or a word of the journal's page
abbrev pub IsEndWord : ℕ → ℕ → Type 0
IsEndWord ino a = (a ≡ inode_word ino 1) ⊎ (a ≡ inode_word ino 2) ⊎ IsInPage 1 a
