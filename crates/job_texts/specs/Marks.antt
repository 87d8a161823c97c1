-- Marks of the pages to which places are mapped.
use Rattle.std.specs.Prelude.{◌≡◌, ◌⊎◌, ◌↔◌, ℕ, ◌<◌, ◌≤◌, Bool, true, false, List, length, slice_index_or, IfSome}
use Rattle.std.specs.Ordering.{nat_cmp}
use Rattle.std.specs.FinMap.{FinMap, get}
use Rattle.file_index.specs.declared.page_map.Mapping.{Mapping}
use Rattle.file_content.specs.Overwritten.{IsBlockOf}
use Rattle.dn_model.specs.Disk.{Disk, IsMapped}

-- each page to which a place of a file is mapped is below the end
abbrev pub IsInside : ℕ → FinMap nat_cmp Mapping → Type 0
IsInside pages map = (idx : ℕ) → idx < 4096 → IfSome (get map idx) (λ m. m.block < pages)

-- one of the places from `first` up to `end` is mapped to this page
pub record IsBlockWithin (map : FinMap nat_cmp Mapping) (first end page : ℕ) : Type 0 where
  pub place : ℕ
  pub from : first ≤ place
  pub below : place < end
  pub block : IsBlockOf (get map place) page

abbrev pub IsSet : List Bool → ℕ → Type 0
IsSet marks page = slice_index_or marks page false ≡ true

-- the pages of those places are marked, and nothing else changed
pub record MarksBlocks (map : FinMap nat_cmp Mapping) (first end : ℕ) (old new : List Bool) : Type 0
  where
    pub long : length new ≡ length old
    pub each : (page : ℕ) → IsSet new page ↔ (IsSet old page ⊎ IsBlockWithin map first end page)

-- each page is marked that has a mapping, and no other
pub record MarksMapped (d : Disk) (marks : List Bool) : Type 0 where
  pub long : length marks ≡ d.geometry.pages
  pub each : (page : ℕ) → IsSet marks page ↔ IsMapped d page
