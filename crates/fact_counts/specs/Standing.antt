-- A row of a table that the words hold.
use Rattle.std.specs.Prelude.{ℕ, List}
use Rattle.dn_model.specs.Table.{Row}
use Rattle.dn_model.specs.Disk.{Disk}
use Rattle.fact_table.specs.Table.{Table, IsTable, IsAtSlot}

-- the words hold a table, in which a row with this slot has P
pub record HasRowWith (words : List ℕ) (t : Table) (slot : ℕ) (P : Row → Type 0) : Type 0 where
  pub disk : Disk
  pub table : IsTable disk words t
  pub row : Row
  pub at_slot : IsAtSlot disk slot row
  pub has : P row
