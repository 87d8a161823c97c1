-- Pages become free, rows wait to be released, and items wait for the daemon.
use Rattle.std.specs.Prelude.{
  ◌≡◌,
  ◌⊎◌,
  ◌↔◌,
  ℕ,
  ◌+◌,
  ◌<◌,
  ◌≤◌,
  List,
  ◌++◌,
  length,
  slice_index,
  Option,
  Some,
  None,
  IfSome,
  Contains,
}
use Rattle.std.specs.Ordering.{nat_cmp}
use Rattle.std.specs.FinMap.{FinMap, get}
use Rattle.page_alloc.specs.Free.{FreePages, IsInOrder}
use Rattle.dedupe_queue.specs.Queue.{Waiting}
use Rattle.dedupe_queue.specs.declared.Work.{Work}
use Rattle.pm_layout.specs.declared.Geometry.{Geometry}
use Rattle.file_index.specs.declared.page_map.Mapping.{Mapping}
use Rattle.fact_table.specs.Table.{Table, IsTable, HasNoneOf}
use Rattle.dn_model.specs.Log.{Log, IsPaged, count, tail_at, slot_name}
use Rattle.dn_model.specs.Disk.{Disk}

-- these pages became free, and nothing else changed
pub record Gives (given : ℕ → Type 0) (old new : FreePages) : Type 0 where
  pub pages : new.pages ≡ old.pages
  pub free : (page : ℕ) → Contains new.free page ↔ (Contains old.free page ⊎ given page)
  pub no_less : length old.free ≤ length new.free
  pub in_order : IsInOrder new

-- the page is one of the first k of these
pub record IsAmong (pages : List ℕ) (k page : ℕ) : Type 0 where
  pub i : ℕ
  pub below : i < k
  pub is : slice_index pages i ≡ page

-- a place that is mapped so is mapped to this page, which has no row
abbrev pub IsUnshared : Disk → Option Mapping → ℕ → Type 0
IsUnshared d None page = ⊥
IsUnshared d (Some m) page = (m.block ≡ page) × HasNoneOf d page

-- one of the n places from `first` on is
pub record IsUnsharedAmong (d : Disk) (map : FinMap nat_cmp Mapping) (first n page : ℕ) : Type 0
  where
    pub i : ℕ
    pub below : i < n
    pub is : IsUnshared d (get map (first + i)) page

-- The table is that of a disk; those pages of the n places lie in the image, are not free, and are
-- different ones.
pub record CanGive (words : List ℕ) (t : Table) (map : FinMap nat_cmp Mapping) (first n : ℕ)
    (free : FreePages) : Type 0 where
  pub disk : Disk
  pub table : IsTable disk words t
  pub in_order : IsInOrder free
  pub inside : (i : ℕ) → i < n → IfSome (get map (first + i)) (λ m. m.block < t.geometry.pages)
  pub below : (i page : ℕ) → i < n → IsUnshared disk (get map (first + i)) page → page < free.pages
  pub taken : (i page : ℕ) → i < n → IsUnshared disk (get map (first + i)) page
      → ¬ Contains free.free page
  pub apart : (i j page : ℕ) → i < n → j < n → IsUnshared disk (get map (first + i)) page
      → IsUnshared disk (get map (first + j)) page → i ≡ j

-- work for each of so many slots past a log's tail waits
pub record QueuesSlots (ino round tail : ℕ) (fresh : List ℕ) (n : ℕ) (old new : Waiting) : Type 0
  where
    pub more : List Work
    pub items : new.items ≡ old.items ++ more
    pub each : (g : Geometry) (log : Log) → IsPaged g log → tail ≡ tail_at log.pages (count log)
        → (j : ℕ) → j < n
        → Contains more (record {
          ino = ino;
          round = round;
          slot = slot_name (log.pages ++ fresh)
              (count log + j);
        })
    pub room : old.room ≡ new.room + n
