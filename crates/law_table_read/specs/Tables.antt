-- Whether words hold a table of fingerprints.
use Rattle.std.specs.Prelude.{◌≡◌, ◌⊎◌, ℕ, ◌<◌, List, slice_get, Some}
use Rattle.pm_device.specs.Reading.{Reads}
use Rattle.pm_layout.specs.declared.Geometry.{Geometry}
use Rattle.pm_layout.specs.Geometry.{directs}
use Rattle.dn_model.specs.Table.{Row, ChainSays, rows_from}
use Rattle.dn_model.specs.Valid.{IsRow, AreApart}
use Rattle.dn_model.specs.Faults.{RowStands, TableFault}

-- the words of this slot hold a row that may stand at place k of the chain of this prefix
pub record HoldsRow (g : Geometry) (c : List ℕ) (slot prefix k : ℕ) : Type 0 where
  pub row : Row
  pub stands : RowStands g c slot row
  pub is_row : IsRow g prefix k row

-- these words hold the chains of a table
pub record HasChains (g : Geometry) (c : List ℕ) : Type 0 where
  pub chain : ℕ → List Row
  pub reads : (q : ℕ) → q < directs g → Reads (ChainSays g q (chain q)) c
  pub are_rows : (q k : ℕ) (row : Row) → q < directs g → slice_get (chain q) k ≡ Some row
      → IsRow g q k row
  pub apart : AreApart (rows_from chain 0 (directs g))

-- it is decided whether a slot holds a row that may stand there
abbrev pub RowsAreReadOrNot : Type 0
RowsAreReadOrNot = (g : Geometry) (c : List ℕ) (slot prefix k : ℕ)
    → HoldsRow g c slot prefix k ⊎ (HoldsRow g c slot prefix k → ⊥)

-- the table is read, or it has a first fault
abbrev pub TablesAreReadOrFaulty : Type 0
TablesAreReadOrFaulty = (g : Geometry) (c : List ℕ) → ((slot : ℕ) × TableFault g c slot) ⊎ HasChains
    g c
