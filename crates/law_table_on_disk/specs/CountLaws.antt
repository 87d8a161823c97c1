-- Laws of a row's counts: one word of the table.
use Rattle.std.specs.Prelude.{◌≡◌, ◌≢◌, ◌⊎◌, ℕ, ◌+◌, ◌^◌, ◌<◌, ◌≤◌, [], All, Contains}
use Rattle.pm_layout.specs.Geometry.{slot_word}
use Rattle.fingerprint.specs.Count.{count_word}
use Rattle.dn_model.specs.Table.{Row}
use Rattle.dn_model.specs.Disk.{Disk, rows}
use Rattle.dn_model.specs.Counts.{mappings, Exact}
use Rattle.dn_model.specs.Valid.{IsValid}
use Rattle.dn_model.specs.Own.{Print, IsOwn}
use Rattle.law_table.specs.Changes.{recounted}
use Rattle.law_table_on_disk.specs.OneWord.{IsOneWord}

-- the row may get these counts: they fit, and are off by at most what is under way
pub record MayRecount (d : Disk) (row : Row) (rfc uc : ℕ) : Type 0 where
  pub valid : IsValid d
  pub has : Contains (rows d) row
  pub rfc_fits : rfc < 2 ^ 32
  pub uc_fits : uc < 2 ^ 32
  pub near_below : mappings d row.page ≤ rfc + uc
  pub near_above : rfc ≤ mappings d row.page + uc

-- the count word of its slot decides
abbrev pub RecountIsOneWord : Type 0
RecountIsOneWord = (d : Disk) (row : Row) (rfc uc : ℕ) → MayRecount d row rfc uc
    → IsOneWord d (recounted d row.slot rfc uc) 0 [] (slot_word d.geometry row.slot 4)
    (count_word rfc uc)

-- the row's count is the number of mappings of its page, and isn't 0
abbrev pub IsExact : Disk → Row → Type 0
IsExact d row = (row.uc ≡ 0) × (row.rfc ≡ mappings d row.page) × (row.rfc ≢ 0)

-- the rows at other slots have exact counts
abbrev pub OthersAreExact : Disk → ℕ → Type 0
OthersAreExact d slot = All (λ row. (row.slot ≡ slot) ⊎ IsExact d row) (rows d)

-- the last count that was off is set right
abbrev pub RecountMakesExact : Type 0
RecountMakesExact = (d : Disk) (row : Row) (rfc : ℕ) → IsValid d → Contains (rows d) row
    → OthersAreExact d row.slot → rfc ≡ mappings d row.page → rfc ≢ 0
    → Exact (recounted d row.slot rfc 0)

-- prints and marks don't read the counts
abbrev pub RecountStaysOwn : Type 0
RecountStaysOwn = (print : Print) (d : Disk) (slot rfc uc : ℕ) → IsOwn print d
    → IsOwn print (recounted d slot rfc uc)
