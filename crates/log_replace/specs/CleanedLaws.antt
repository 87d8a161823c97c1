-- The laws of a disk on which a cleaned log has replaced the old one.
use Rattle.std.specs.Prelude.{◌≡◌, ℕ, ◌*◌, ◌<◌, List, length, Contains}
use Rattle.pm_device.specs.State.{State, Agree}
use Rattle.pm_device.specs.Settled.{LeavesNow}
use Rattle.pm_device.specs.Reading.{Stands}
use Rattle.dn_model.specs.Log.{IsPaged}
use Rattle.dn_model.specs.Disk.{Disk, DiskSays, Live}
use Rattle.dn_model.specs.Files.{files, IsSameFiles}
use Rattle.dn_model.specs.Image.{StandsFor}
use Rattle.dn_model.specs.Own.{Print, IsOwn, Settled}
use Rattle.dn_model.specs.Valid.{IsValid}
use Rattle.law_write.specs.Events.{IsUnused}
use Rattle.law_log_swap.specs.Relogged.{relogged, KeepsData}
use Rattle.law_log_swap.specs.Replaced.{MayReplace, SwapsLog}
use Rattle.law_clean.specs.Cleaned.{cleaned_log, IsWorthCleaning}

-- the log of a live inode is worth cleaning, and these unused pages just hold the cleaned one
pub record MayClean (d : Disk) (ino : ℕ) (pages : List ℕ) : Type 0 where
  pub valid : IsValid d
  pub in_table : ino < d.geometry.inodes
  pub live : (d.inode ino).use_of ≡ Live
  pub worth : IsWorthCleaning ino (d.inode ino).log
  pub paged : IsPaged d.geometry (cleaned_log ino (d.inode ino).log pages)
  pub unused : (page : ℕ) → Contains pages page → IsUnused d page

-- the disk with the cleaned log on these pages in the place of the inode's log
abbrev pub cleaned_disk : Disk → ℕ → List ℕ → Disk
cleaned_disk d ino pages = relogged d ino (cleaned_log ino (d.inode ino).log pages)

abbrev pub MayCleanReplaces : Type 0
MayCleanReplaces = (d : Disk) (ino : ℕ) (pages : List ℕ) → MayClean d ino pages
    → MayReplace d ino (cleaned_log ino (d.inode ino).log pages)

-- it is valid
abbrev pub CleanedStaysValid : Type 0
CleanedStaysValid = (d : Disk) (ino : ℕ) (pages : List ℕ) → MayClean d ino pages
    → IsValid (cleaned_disk d ino pages)

-- its files are those of before
abbrev pub CleanedKeepsFiles : Type 0
CleanedKeepsFiles = (d : Disk) (ino : ℕ) (pages : List ℕ) → MayClean d ino pages
    → IsSameFiles (files (cleaned_disk d ino pages)) (files d)

-- so are mappings, rows and counts
abbrev pub CleanedKeepsData : Type 0
CleanedKeepsData = (d : Disk) (ino : ℕ) (pages : List ℕ) → MayClean d ino pages
    → KeepsData d (cleaned_disk d ino pages) ino

-- the old log's pages come free, and those of the new one are taken
abbrev pub CleanedSwapsPages : Type 0
CleanedSwapsPages = (d : Disk) (ino : ℕ) (pages : List ℕ) → MayClean d ino pages
    → SwapsLog d (cleaned_disk d ino pages) ino (cleaned_log ino (d.inode ino).log pages)

-- what every image of this program has it has still
abbrev pub CleanedStaysOwn : Type 0
CleanedStaysOwn = (print : Print) (d : Disk) (ino : ℕ) (pages : List ℕ) → MayClean d ino pages
    → IsOwn print d → IsOwn print (cleaned_disk d ino pages)

abbrev pub CleanedStaysSettled : Type 0
CleanedStaysSettled = (d : Disk) (ino : ℕ) (pages : List ℕ) → MayClean d ino pages → Settled d
    → Settled (cleaned_disk d ino pages)

-- once the device stands for it, so does each image that a stop may leave
abbrev pub CleanedIsLeft : Type 0
CleanedIsLeft = (d : Disk) (ino : ℕ) (pages : List ℕ) → MayClean d ino pages → (s : State)
    → Agree s.now s.past → length s.now ≡ 512 * d.geometry.pages
    → Stands (DiskSays (cleaned_disk d ino pages)) s
    → LeavesNow s (λ c. StandsFor c (cleaned_disk d ino pages))
