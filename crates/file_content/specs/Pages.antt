-- The pages that a write fills.
use Rattle.std.specs.Prelude.{◌≡◌, ℕ, ◌+◌, ◌*◌, ◌<◌, ◌≤◌, List, length, slice_index}
use Rattle.std.specs.Ordering.{nat_cmp}
use Rattle.std.specs.FinMap.{FinMap}
use Rattle.pm_device.specs.State.{State}
use Rattle.pm_device.specs.Reading.{Stands}
use Rattle.pm_device.specs.Pages.{IsInPage}
use Rattle.pm_layout.specs.declared.Geometry.{Geometry}
use Rattle.file_index.specs.declared.page_map.Mapping.{Mapping}
use Rattle.dn_model.specs.Disk.{Disk, DiskSays}
use Rattle.dn_model.specs.Files.{bytes}
use Rattle.dn_model.specs.Valid.{IsValid}
use Rattle.law_write.specs.Events.{IsUnused}
use Rattle.file_content.specs.Content.{IsFileOf, IsFilledBy, kept_byte, merged_byte}
use Rattle.file_content.specs.PutLoop.{put_byte}

-- a word of one of the pages
pub record IsInPages (pages : List ℕ) (a : ℕ) : Type 0 where
  pub i : ℕ
  pub below : i < length pages
  pub in_page : IsInPage (slice_index pages i) a

-- no page stands twice
abbrev pub AreApart : List ℕ → Type 0
AreApart pages = (i j : ℕ) → i < length pages → j < length pages → slice_index pages i ≡ slice_index
    pages j → i ≡ j

-- The page holds this place of the file, as far as it is kept, with the text put in from byte `at`
-- on, and this actor
-- has flushed it: for each file of a disk that stood before.
abbrev pub FillsPlace : Geometry → ℕ → FinMap nat_cmp Mapping → (size place at : ℕ) → List ℕ → ℕ
    → State → State → Type 0
FillsPlace g who map size place at text block s t = (d : Disk) (ino whole : ℕ)
    → IsFileOf d ino whole map → size ≤ whole → IsValid d → d.geometry ≡ g → Stands (DiskSays d) s
    → IsFilledBy who t block
    (λ k. put_byte at text (4096 * place + k) (kept_byte size (bytes d ino) (4096 * place + k)))

-- The first n of these pages hold the places of the file from `first` on, with the text put in from
-- byte `at` on, and
-- this actor has flushed them: for each file of a disk that stood before and doesn't use the pages.
pub record AreFilled (g : Geometry) (who : ℕ) (map : FinMap nat_cmp Mapping) (size first at : ℕ)
    (text pages : List ℕ) (n : ℕ) (s t : State) : Type 0 where
  pub filled : (d : Disk) (ino : ℕ) → IsFileOf d ino size map → IsValid d → d.geometry ≡ g
      → Stands (DiskSays d) s → ((i : ℕ) → i < length pages → IsUnused d (slice_index pages i))
      → (i : ℕ) → i < n → IsFilledBy who t (slice_index pages i)
      (λ k. merged_byte (bytes d ino) at text (4096 * (first + i) + k))
