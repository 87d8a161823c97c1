-- How far the places of runs are mapped.
use Rattle.std.specs.Prelude.{◌≡◌, ℕ, ◌+◌, ◌≤◌, List, ◌++◌, drop}
use Rattle.std.specs.Ordering.{nat_cmp}
use Rattle.std.specs.FinMap.{get}
use Rattle.pm_layout.specs.declared.Geometry.{Geometry}
use Rattle.dn_model.specs.Log.{Log, IsPaged, count, tail_at, slot_name}
use Rattle.law_write.specs.Runs.{places_in}
use Rattle.file_index.specs.Index.{Index}
use Rattle.file_index.specs.declared.page_map.Mapping.{Mapping}
use Rattle.file_content.specs.declared.runs.Run.{Run}
use Rattle.file_content.specs.Runs.{all_seen, mapped_by, mapped_by_all}

-- n places from `first` on are mapped to the pages from `block` on, by the item at this slot, and
-- the others are as they were
pub record MapsRun (first n block slot : ℕ) (old new : Index nat_cmp Mapping) : Type 0 where
  pub each : (idx : ℕ) → get new.map idx ≡ mapped_by first n block slot idx (get old.map idx)
  pub room : old.room ≤ new.room + n

-- The first j runs are mapped: what the runs from j on make of it is what all make of the old
-- mappings.
pub record MapsTo (tail : ℕ) (fresh : List ℕ) (runs : List Run) (j : ℕ)
    (old new : Index nat_cmp Mapping) : Type 0 where
  pub each : (g : Geometry) (log : Log) → IsPaged g log → tail ≡ tail_at log.pages (count log)
      → (idx : ℕ)
      → mapped_by_all (slot_name (log.pages ++ fresh)) (count log + j) idx (get new.map idx)
      (drop j runs) ≡ mapped_by_all (slot_name (log.pages ++ fresh)) (count log) idx
      (get old.map idx) runs
  pub room : old.room + places_in (all_seen (drop j runs)) ≤ new.room + places_in (all_seen runs)
