-- How many pages of a write are filled.
use Rattle.std.specs.Prelude.{ℕ, ◌+◌, ◌*◌, ◌≤◌, List}
use Rattle.std.specs.Ordering.{nat_cmp}
use Rattle.std.specs.FinMap.{FinMap}
use Rattle.pm_device.specs.State.{State}
use Rattle.pm_device.specs.Settled.{StoresOnly, KeepsFlushed, Anyone}
use Rattle.pm_layout.specs.declared.Geometry.{Geometry}
use Rattle.file_index.specs.declared.page_map.Mapping.{Mapping}
use Rattle.file_content.specs.Pages.{IsInPages, AreFilled}

-- the first n of these pages are filled
pub record FillsTo (g : Geometry) (who : ℕ) (map : FinMap nat_cmp Mapping) (size first at : ℕ)
    (text pages : List ℕ) (n : ℕ) (s t : State) : Type 0 where
  pub pages_are : AreFilled g who map size first at text pages n s t
  pub only : StoresOnly (IsInPages pages) s t
  pub keeps : KeepsFlushed Anyone (IsInPages pages) s t
  pub spare : s.spare ≤ t.spare + 576 * n
  pub faults : s.faults ≤ t.faults
