-- What counts of the uses of pages say of a state.
use Rattle.std.specs.Prelude.{
  ◌≡◌,
  ◌≢◌,
  ◌⊎◌,
  ℕ,
  ◌<◌,
  ◌≤◌,
  Bool,
  true,
  false,
  is_some,
  List,
  length,
  slice_index,
  slice_index_or,
  Contains,
  AllPairs,
}
use Rattle.dn_model.specs.Table.{row_of}
use Rattle.dn_model.specs.Disk.{Disk, IsUsed, rows}
use Rattle.dn_model.specs.Counts.{mappings}
use Rattle.dn_model.specs.Valid.{IsLog}
use Rattle.image_logs.specs.Logs.{logs_with}

-- the counts of each page of this state: the logs that have it, and the places that are mapped to
-- it
pub record IsCounted (d : Disk) (in_logs mapped : List ℕ) : Type 0 where
  pub long_logs : length in_logs ≡ d.geometry.pages
  pub long_mapped : length mapped ≡ d.geometry.pages
  pub logs : (page : ℕ) → page < d.geometry.pages → slice_index in_logs page ≡ logs_with d page
  pub places : (page : ℕ) → page < d.geometry.pages → slice_index mapped page ≡ mappings d page

-- whether each page of this state has a row
abbrev pub MarksRows : Disk → List Bool → Type 0
MarksRows d has_row = (page : ℕ) → page < d.geometry.pages → slice_index_or has_row page
    false ≡ is_some (row_of (rows d) page)

-- no log of a used inode has a fault
abbrev pub HasReadLogs : Disk → Type 0
HasReadLogs d = (ino : ℕ) → ino < d.geometry.inodes → IsUsed (d.inode ino).use_of
    → IsLog d.geometry ino (d.inode ino).log

-- a page is used twice, by how many logs have it, how many places are mapped to it, and whether it
-- has a row
abbrev pub IsUsedTwice : ℕ → ℕ → Bool → Type 0
IsUsedTwice in_logs mapped has_row = (1 < in_logs) ⊎ ((1 ≤ in_logs) × (1 ≤ mapped))
    ⊎ ((1 ≤ in_logs) × (has_row ≡ true)) ⊎ ((has_row ≡ false) × (1 < mapped))

-- so many numbers have P
abbrev pub HasSo : (ℕ → Type 0) → ℕ → Type 0
HasSo P n = (xs : List ℕ) × ((x : ℕ) → (Contains xs x → P x) × (P x → Contains xs x)) × AllPairs
    (λ x y. x ≢ y) xs × (length xs ≡ n)
