-- A log that is written page by page before it is any inode's.
use Rattle.std.specs.Prelude.{
  ◌≡◌,
  ℕ,
  ◌+◌,
  ◌*◌,
  ◌/◌,
  ◌<◌,
  List,
  length,
  slice_index,
}
use Rattle.pm_device.specs.State.{State}
use Rattle.pm_device.specs.Settled.{StoresOnly}
use Rattle.pm_device.specs.Reading.{Said, Stands}
use Rattle.pm_layout.specs.declared.Geometry.{Geometry}
use Rattle.log_entry.specs.Spelling.{spelled}
use Rattle.dn_model.specs.Log.{Log, IsPaged, count, log_word, footer_word, spelled_word}
use Rattle.dn_model.specs.Disk.{Disk, DiskSays}
use Rattle.law_names.specs.NameLaws.{StandsStill}
use Rattle.law_log_swap.specs.Replaced.{MayReplace}

-- what page k of a log says: which page follows, and the words of its slots
pub data PageSays (log : Log) (k a v : ℕ) : Type 0 where
  page_link : k + 1 < length log.pages → a ≡ footer_word log.pages k
      → v ≡ slice_index log.pages (k + 1) → PageSays log k a v
  page_slot : (n j : ℕ) → n / 63 ≡ k → n < count log → j < 8 → a ≡ log_word log.pages n j
      → v ≡ spelled_word log n j → PageSays log k a v

-- what its first k pages say
pub record BodyTo (log : Log) (k a v : ℕ) : Type 0 where
  pub page : ℕ
  pub lt : page < k
  pub says : PageSays log page a v

-- the log has these pages, and these slots spell its items
pub record IsLogOf (pages : List ℕ) (slots : List (List ℕ)) (log : Log) : Type 0 where
  pub pages_are : log.pages ≡ pages
  pub slots_are : spelled log.items ≡ slots

-- where the first k pages of the log stood, one page more stands
abbrev pub AddsPage : List ℕ → List (List ℕ) → ℕ → State → State → Type 0
AddsPage pages slots k s t = (g : Geometry) (log : Log) → IsLogOf pages slots log → IsPaged g log
    → Stands (BodyTo log k) s → Stands (BodyTo log (k + 1)) t

-- only words of which page k of the log speaks were stored to
abbrev pub StoresPage : List ℕ → List (List ℕ) → ℕ → State → State → Type 0
StoresPage pages slots k s t = (log : Log) → IsLogOf pages slots log
    → StoresOnly (Said (PageSays log k)) s t

-- A disk of which an inode's log may be replaced by this one stands as before, and so does each image
-- that a stop may leave.
abbrev pub DisksStandStill : List ℕ → List (List ℕ) → State → State → Type 0
DisksStandStill pages slots s t = (d : Disk) (ino : ℕ) (log : Log) → IsLogOf pages slots log
    → MayReplace d ino log → length s.now ≡ 512 * d.geometry.pages → Stands (DiskSays d) s
    → StandsStill d s t
