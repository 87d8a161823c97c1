-- The free pages, and those that are taken by what is in flight.
use Rattle.std.specs.Prelude.{◌≡◌, ◌≢◌, ◌↔◌, ℕ, ◌+◌, ◌<◌, ◌≤◌, length, Contains}
use Rattle.page_alloc.specs.Free.{IsInOrder}
use Rattle.pm_layout.specs.Geometry.{directs}
use Rattle.fact_table.specs.Table.{Table, HasRow, HasNoneAt}
use Rattle.dn_model.specs.Disk.{Disk}
use Rattle.law_write.specs.Events.{IsUnused}
use Rattle.dn_volume.specs.declared.volume.Parts.{Parts}
use Rattle.dn_volume.specs.Parties.{Takes}
use Rattle.dn_volume.specs.Cleans.{TwoLeft}

-- Each page that is taken has one taker, 0 standing for none; so no two take one. The unused pages
-- that nobody has
-- taken are the free ones.
pub record HasSpace (d : Disk) (b : Parts) : Type 0 where
  pub pages : b.free.pages ≡ d.geometry.pages
  pub in_order : IsInOrder b.free
  pub taker : ℕ → ℕ
  pub free : (page : ℕ) → Contains b.free.free page ↔ (IsUnused d page × (taker page ≡ 0))
  pub takes : (who page : ℕ) → Takes b who page → taker page ≡ who
  pub taken : (page : ℕ) → taker page ≢ 0 → Takes b (taker page) page
  pub unused : (page : ℕ) → taker page ≢ 0 → IsUnused d page
  pub some : 1 ≤ length b.free.free
  pub left : TwoLeft b

-- what is kept of the table: which indirect slots have no row
pub record AreSlotsOf (d : Disk) (t : Table) : Type 0 where
  pub geometry : d.geometry ≡ t.geometry
  pub set : t.free.pages ≡ t.geometry.pages
  pub free : (k : ℕ) → Contains t.free.free k → HasNoneAt d (directs t.geometry + k)
  pub taken : (k : ℕ) → k < t.geometry.pages → ¬ Contains t.free.free k
      → HasRow d (directs t.geometry + k)
