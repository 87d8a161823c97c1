-- A live file is cut, or gets longer: what a cut of its size stands on, and the disk that it makes.
use Rattle.std.specs.Prelude.{
  ◌≡◌,
  ◌≢◌,
  ◌⊎◌,
  ℕ,
  ◌+◌,
  ◌*◌,
  ◌/◌,
  ◌%◌,
  ◌<◌,
  ◌≤◌,
  if◌then◌else◌,
  nat_lt,
  List,
  [],
  ◌∷◌,
  ◌++◌,
  length,
  slice_index,
  Contains,
  Option,
  Some,
  None,
}
use Rattle.log_entry.specs.Spelling.{pages_of}
use Rattle.log_entry.specs.declared.item.LogItem.{LogItem}
use Rattle.log_entry.specs.declared.item.LogItem.TheVariants.{Size}
use Rattle.dn_model.specs.Log.{count}
use Rattle.dn_model.specs.Maps.{Mapping, size_of}
use Rattle.dn_model.specs.Disk.{Disk, Live, maps}
use Rattle.dn_model.specs.Counts.{total, hit, IsFree}
use Rattle.dn_model.specs.Files.{bytes, byte_of}
use Rattle.dn_model.specs.Valid.{IsValid}
use Rattle.law_write.specs.Events.{IsReadPage, IsUnused}
use Rattle.law_write.specs.Runs.{Run, run_items}
use Rattle.law_write.specs.WithLog.{with_log, grown_log}

-- the last page of a size that isn't a whole number of pages
abbrev pub last_page : ℕ → ℕ
last_page size = size / 4096

-- the page that is filled anew, if there is one, as a run
abbrev pub refill_runs : ℕ → Option ℕ → List Run
refill_runs size None = []
refill_runs size (Some page) = record { first = last_page size; count = 1; block = page } ∷ []

-- the items: a Write of the last kept page where it is filled anew, and the size
abbrev pub cut_items : ℕ → Option ℕ → List LogItem
cut_items size refill = run_items (refill_runs size refill) size ++ Size size ∷ []

abbrev pub cut_disk : Disk → ℕ → List ℕ → ℕ → Option ℕ → (ℕ → ℕ → ℕ) → Disk
cut_disk d ino fresh size refill word = with_log d ino
    (grown_log (d.inode ino).log fresh (cut_items size refill)) word

-- The last kept page is filled anew, on an unused page, where the size ends in it; it may stay
-- where the size ends at
-- its end, the file isn't cut, or nothing is mapped there.
abbrev pub MayRefill : Disk → ℕ → List ℕ → ℕ → Option ℕ → Type 0
MayRefill d ino fresh size None = (size % 4096 ≡ 0) ⊎ (size_of (d.inode ino).log ≤ size)
    ⊎ (maps d ino (last_page size) ≡ None)
MayRefill d ino fresh size (Some page) = (1 ≤ size % 4096) × IsUnused d page × (Contains fresh page
    → ⊥)

abbrev pub IsNotRefill : Option ℕ → ℕ → Type 0
IsNotRefill None page = Unit {0}
IsNotRefill (Some new) page = new ≢ page

-- a free page that the commit doesn't take
pub record IsLeft (d : Disk) (fresh : List ℕ) (refill : Option ℕ) (page : ℕ) : Type 0 where
  pub free : IsFree d page
  pub no_refill : IsNotRefill refill page
  pub not_fresh : Contains fresh page → ⊥

-- The file then has this size; the log takes these fresh pages; the pages then have these words.
pub record MayCut (d : Disk) (ino : ℕ) (fresh : List ℕ) (size : ℕ) (refill : Option ℕ)
    (word : ℕ → ℕ → ℕ) : Type 0 where
  pub valid : IsValid d
  pub file : 1 ≤ ino
  pub in_table : ino < d.geometry.inodes
  pub live : (d.inode ino).use_of ≡ Live
  pub small : size ≤ 16777216
  pub refills : MayRefill d ino fresh size refill
  pub fresh_unused : (page : ℕ) → Contains fresh page → IsUnused d page
  pub fresh_apart : (j k : ℕ) → j < length fresh → k < length fresh
      → slice_index fresh j ≡ slice_index fresh k → j ≡ k
  pub room : length ((d.inode ino).log.pages ++ fresh) ≡ (count (d.inode ino).log + length
      (cut_items size refill) + 62) / 63
  pub words : (page k : ℕ) → IsReadPage d page → word page k ≡ d.word page k
  pub left : (p : ℕ) × (q : ℕ) × (p ≢ q) × IsLeft d fresh refill p × IsLeft d fresh refill q

-- the page that is filled anew has the old bytes below the size, and zeros from it on
pub record RefillsPage (old new : Disk) (ino size page : ℕ) : Type 0 where
  pub kept : (k : ℕ) → k < size % 4096 → byte_of new page k ≡ slice_index (bytes old ino)
      (4096 * last_page size + k)
  pub zeros : (k : ℕ) → size % 4096 ≤ k → k < 4096 → byte_of new page k ≡ 0

abbrev pub Refills : Disk → Disk → ℕ → ℕ → Option ℕ → Type 0
Refills old new ino size None = Unit {0}
Refills old new ino size (Some page) = RefillsPage old new ino size page

-- what is mapped past the old end holds zeros
abbrev pub EndsInZeros : Disk → ℕ → Type 0
EndsInZeros d ino = (idx k : ℕ) (m : Mapping) → maps d ino idx ≡ Some m → k < 4096
    → size_of (d.inode ino).log ≤ 4096 * idx + k → byte_of d m.block k ≡ 0

-- a place of the file that goes: it lies past the new size, or is filled anew
pub data GoesAway (size : ℕ) (refill : Option ℕ) (idx : ℕ) : Type 0 where
  past_end : pages_of size ≤ idx → GoesAway size refill idx
  refilled : (page : ℕ) → refill ≡ Some page → idx ≡ last_page size → GoesAway size refill idx

-- the page was that of such a place
pub record IsDropped (d : Disk) (ino size : ℕ) (refill : Option ℕ) (page : ℕ) : Type 0 where
  pub idx : ℕ
  pub by : Mapping
  pub was : maps d ino idx ≡ Some by
  pub block : by.block ≡ page
  pub goes : GoesAway size refill idx

-- the places from here on go, or are filled anew
abbrev pub first_gone : ℕ → Option ℕ → ℕ
first_gone size None = pages_of size
first_gone size (Some page) = last_page size

-- how many of them were on this page
abbrev pub dropped_places : Disk → ℕ → ℕ → Option ℕ → ℕ → ℕ
dropped_places d ino size refill page = total 4096 (λ idx. if nat_lt idx (first_gone size refill)
    then 0 else hit page (maps d ino idx))
