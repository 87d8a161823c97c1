-- The row of a zero check.
use Rattle.std.specs.Prelude.{◌≡◌, ℕ, List}
use Rattle.dn_model.specs.Table.{Row}
use Rattle.dn_model.specs.Disk.{Disk}
use Rattle.fact_table.specs.Table.{Table, IsTable, IsAtSlot}

-- there is a row at this slot; it has this page, no reference and no update under way
pub record IsZero (row : Row) (page : ℕ) : Type 0 where
  pub page_is : row.page ≡ page
  pub no_reference : row.rfc ≡ 0
  pub no_update : row.uc ≡ 0

abbrev pub IsZeroRow : List ℕ → Table → ℕ → ℕ → Type 0
IsZeroRow words t slot page = (d : Disk) (row : Row) → IsTable d words t → IsAtSlot d slot row
    → IsZero row page

-- the row at this slot has a reference, or an update under way
abbrev pub IsCountedRow : List ℕ → Table → ℕ → Type 0
IsCountedRow words t slot = (d : Disk) (row : Row) → IsTable d words t → IsAtSlot d slot row
    → row.rfc ≡ 0 → row.uc ≡ 0 → ⊥
