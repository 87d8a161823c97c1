-- Rows of indirect slots, one after another.
use Rattle.std.specs.Prelude.{
  ◌≡◌,
  ◌≢◌,
  ℕ,
  zero,
  suc,
  ◌^◌,
  ◌<◌,
  ◌≤◌,
  List,
  [],
  ◌∷◌,
  length,
  slice_get,
  Some,
  Contains,
}
use Rattle.pm_device.specs.Reading.{Reads}
use Rattle.pm_layout.specs.declared.Geometry.{Geometry}
use Rattle.pm_layout.specs.Geometry.{directs, slots}
use Rattle.fingerprint.specs.Print.{IsPrint}
use Rattle.dn_model.specs.Table.{Row, RowsSay, first_slot, chained, prefix_of}

-- a row that may stand in an indirect slot
pub record IsIndirect (g : Geometry) (row : Row) : Type 0 where
  pub low : directs g ≤ row.slot
  pub high : row.slot < slots g
  pub print : IsPrint row.print
  pub uc : row.uc < 2 ^ 32

-- the words read as these rows, each of which leads to the next; they stand in different indirect
-- slots
pub record IsChained (g : Geometry) (words : List ℕ) (rows : List Row) : Type 0 where
  pub reads : Reads (RowsSay g rows) words
  pub indirect : (k : ℕ) (row : Row) → slice_get rows k ≡ Some row → IsIndirect g row
  pub apart : (j k : ℕ) (r s : Row) → slice_get rows j ≡ Some r → slice_get rows k ≡ Some s
      → r.slot ≡ s.slot → j ≡ k

-- a chain begins with this slot, which is 0 where there is none
pub record IsChainFrom (g : Geometry) (words : List ℕ) (first : ℕ) (rows : List Row) : Type 0 where
  pub chained : IsChained g words rows
  pub first_is : first ≡ first_slot rows

pub record HasChain (g : Geometry) (words : List ℕ) (first : ℕ) : Type 0 where
  pub rows : List Row
  pub is : IsChainFrom g words first rows

-- how many rows are chained behind the direct slot of a fingerprint's prefix
abbrev pub behind_direct : Geometry → (ℕ → List Row) → List ℕ → ℕ
behind_direct g chain print = length (chained (prefix_of g print) (chain (prefix_of g print)))

-- it is one of these rows, and has this fingerprint
pub record IsFound (rows : List Row) (print : List ℕ) (row : Row) : Type 0 where
  pub there : Contains rows row
  pub print_is : row.print ≡ print

-- no row has it
abbrev pub HasNoRow : List Row → List ℕ → Type 0
HasNoRow rows print = (row : Row) → Contains rows row → row.print ≢ print

-- the slot of row i, 0 past the last
abbrev pub slot_from : List Row → ℕ → ℕ
slot_from [] i = 0
slot_from (row ∷ rows) zero = row.slot
slot_from (row ∷ rows) (suc i) = slot_from rows i

-- i rows were looked at, and the next one has this slot
pub record IsWalked (rows : List Row) (print : List ℕ) (i slot : ℕ) : Type 0 where
  pub slot_is : slot ≡ slot_from rows i
  pub within : i ≤ length rows
  pub passed : (k : ℕ) (row : Row) → k < i → slice_get rows k ≡ Some row → row.print ≢ print
