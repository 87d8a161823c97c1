-- The pages of a file's places become free.
use Rattle.std.specs.Prelude.{◌≡◌, ◌⊎◌, ◌↔◌, ℕ, ◌+◌, ◌<◌, Option, Some, None, Contains}
use Rattle.std.specs.Ordering.{nat_cmp}
use Rattle.std.specs.FinMap.{FinMap, get}
use Rattle.page_alloc.specs.Free.{FreePages}
use Rattle.file_index.specs.declared.page_map.Mapping.{Mapping}

-- a place that is mapped so is mapped to this page
abbrev pub IsBlockOf : Option Mapping → ℕ → Type 0
IsBlockOf None page = ⊥
IsBlockOf (Some m) page = m.block ≡ page

-- one of the n places from `first` on is mapped to this page
pub record IsBlockAmong (map : FinMap nat_cmp Mapping) (first n page : ℕ) : Type 0 where
  pub i : ℕ
  pub below : i < n
  pub block : IsBlockOf (get map (first + i)) page

-- the page of a place that is mapped so became free, and nothing else changed
pub record GivesBlock (mapping : Option Mapping) (old new : FreePages) : Type 0 where
  pub pages : new.pages ≡ old.pages
  pub free : (page : ℕ) → Contains new.free page ↔ (Contains old.free page ⊎ IsBlockOf mapping page)

-- the pages of the n places from `first` on, as far as these are mapped, became free, and nothing
-- else changed
pub record GivesBlocks (map : FinMap nat_cmp Mapping) (first n : ℕ) (old new : FreePages) : Type 0
  where
    pub pages : new.pages ≡ old.pages
    pub free : (page : ℕ) → Contains new.free page ↔ (Contains old.free page ⊎ IsBlockAmong map first
        n page)
