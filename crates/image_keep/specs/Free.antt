-- The free pages of a disk.
use Rattle.std.specs.Prelude.{◌≡◌, ◌↔◌, ℕ, Contains}
use Rattle.page_alloc.specs.Free.{FreePages, IsInOrder}
use Rattle.dn_model.specs.Disk.{Disk}
use Rattle.dn_model.specs.Counts.{IsFree}

-- the set has the free pages
pub record AreFreePages (d : Disk) (set : FreePages) : Type 0 where
  pub pages : set.pages ≡ d.geometry.pages
  pub in_order : IsInOrder set
  pub free : (page : ℕ) → Contains set.free page ↔ IsFree d page
