-- The rows of a table that is read without a fault.
use Rattle.std.specs.Prelude.{◌≡◌, ℕ, ◌<◌, List, slice_get, Some}
use Rattle.pm_device.specs.Reading.{Reads}
use Rattle.pm_layout.specs.declared.Geometry.{Geometry}
use Rattle.dn_model.specs.Table.{Row, ChainSays, rows_from}
use Rattle.dn_model.specs.Valid.{IsRow, AreApart}
use Rattle.dn_model.specs.Faults.{TableFault}
use Rattle.fact_scan.specs.declared.scan.ScanFault.{ScanFault}
use Rattle.fact_scan.specs.declared.scan.ScanFault.TheVariants.{BadTable, NoMemory}

-- the words read as these chains of the first n prefixes, whose rows make sense and are apart
pub record AreRead (g : Geometry) (words : List ℕ) (chain : ℕ → List Row) (n : ℕ) : Type 0 where
  pub reads : (q : ℕ) → q < n → Reads (ChainSays g q (chain q)) words
  pub valid : (q k : ℕ) (row : Row) → q < n → slice_get (chain q) k ≡ Some row → IsRow g q k row
  pub apart : AreApart (rows_from chain 0 n)

-- the words read as chains of the first n prefixes, and these are their rows, prefix by prefix
pub record HasRows (g : Geometry) (words : List ℕ) (n : ℕ) (rows : List Row) : Type 0 where
  pub chain : ℕ → List Row
  pub read : AreRead g words chain n
  pub rows_are : rows ≡ rows_from chain 0 n

abbrev pub IsFaultOf : Geometry → List ℕ → ScanFault → Type 0
IsFaultOf g words (BadTable slot) = TableFault g words slot
IsFaultOf g words NoMemory = Unit {0}
