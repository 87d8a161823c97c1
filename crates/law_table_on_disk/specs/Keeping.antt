-- What no change of the table touches.
use Rattle.std.specs.Prelude.{◌≡◌, ℕ, List}
use Rattle.dn_model.specs.Table.{Row}
use Rattle.dn_model.specs.Disk.{Disk, IsMapped, maps}
use Rattle.dn_model.specs.Counts.{mappings, IsLogPage, IsFree}
use Rattle.dn_model.specs.Files.{named, bytes, files, IsSameFiles}
use Rattle.law_table.specs.Changes.{with_table}

-- two disks have the same of this
pub record Same (P Q : ℕ → Type 0) : Type 0 where
  pub kept : (page : ℕ) → P page → Q page
  pub only : (page : ℕ) → Q page → P page

-- files, mappings and free pages are what they were
pub record KeepsFiles (old new : Disk) : Type 0 where
  pub maps_same : (ino idx : ℕ) → maps new ino idx ≡ maps old ino idx
  pub mappings_same : (page : ℕ) → mappings new page ≡ mappings old page
  pub mapped : Same (IsMapped old) (IsMapped new)
  pub log_pages : Same (IsLogPage old) (IsLogPage new)
  pub free : Same (IsFree old) (IsFree new)
  pub names : (name : List ℕ) → named new name ≡ named old name
  pub bytes_same : (ino : ℕ) → bytes new ino ≡ bytes old ino
  pub files_same : IsSameFiles (files old) (files new)

-- whatever becomes of the chains and pointers
abbrev pub TableChangesKeepFiles : Type 0
TableChangesKeepFiles = (d : Disk) (chain : ℕ → List Row) (pointer : ℕ → ℕ)
    → KeepsFiles d (with_table d chain pointer)
