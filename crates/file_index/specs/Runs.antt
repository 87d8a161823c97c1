-- Runs of places that one item maps.
use Rattle.std.specs.Prelude.{◌≡◌, ℕ, zero, suc, ◌+◌, ◌==◌, if◌then◌else◌, List, Option, Some, None}
use Rattle.std.specs.Ordering.{nat_cmp}
use Rattle.std.specs.FinMap.{FinMap, get}
use Rattle.file_index.specs.Radix.{IsRadix, look}
use Rattle.file_index.specs.declared.page_map.Mapping.{Mapping}

-- 1 for a place that leads here, where the place before it doesn't lead to a mapping by the same item
abbrev pub run_begins : (here before : Option Mapping) → ℕ
run_begins None before = 0
run_begins (Some this) None = 1
run_begins (Some this) (Some last) = if last.slot == this.slot then 0 else 1

-- what the place before a place leads to
abbrev pub before_of : (ℕ → Option Mapping) → ℕ → Option Mapping
before_of cell zero = None
before_of cell (suc k) = cell k

-- 1 for a place at which a run begins
abbrev pub begins_at : (ℕ → Option Mapping) → ℕ → ℕ
begins_at cell k = run_begins (cell k) (before_of cell k)

-- how many runs begin at a place or at the next
abbrev pub begins_near : (ℕ → Option Mapping) → ℕ → ℕ
begins_near cell k = begins_at cell k + begins_at cell (suc k)

-- how many runs begin below a place
unfoldable pub runs_below : (ℕ → Option Mapping) → ℕ → ℕ
runs_below cell zero = 0
runs_below cell (suc n) = runs_below cell n + begins_at cell n

-- How many maximal runs of consecutive places there are below 4,096, each of places that lead to
-- mappings by one item, which are those with the same slot.
unfoldable pub runs_of : FinMap nat_cmp Mapping → ℕ
runs_of map = runs_below (get map) 4096

-- Nodes and spare nodes as they are kept, and how many runs their cells have.
pub record IsCounted (nodes spare : List (List (Option Mapping))) (runs : ℕ) : Type 0 where
  pub radix : IsRadix nodes spare
  pub counted : runs ≡ runs_below (look nodes) 4096
