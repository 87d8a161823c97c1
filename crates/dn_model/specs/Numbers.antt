-- The numbers of a disk, as a check tells them.
use Rattle.std.specs.Prelude.{
  ◌≡◌,
  ◌↔◌,
  ℕ,
  zero,
  suc,
  ◌<◌,
  Bool,
  true,
  if◌then◌else◌,
  ◌==◌,
  List,
  Contains,
  AllPairs,
}
use Rattle.dn_model.specs.Table.{Row}
use Rattle.dn_model.specs.Disk.{Disk, Use, Free, Live, Dying, rows}
use Rattle.dn_model.specs.Counts.{total, mappings, Exact}
use Rattle.dn_model.specs.Faults.{HasFree}

-- 1 for a live inode but the root
abbrev pub file_hit : ℕ → Use → ℕ
file_hit zero use_of = 0
file_hit (suc k) Free = 0
file_hit (suc k) Live = 1
file_hit (suc k) (Dying cut) = 0

abbrev pub dying_hit : Use → ℕ
dying_hit Free = 0
dying_hit Live = 0
dying_hit (Dying cut) = 1

-- how many inodes but the root are live, and how many are dying
unfoldable pub files_in : Disk → ℕ
files_in d = total d.geometry.inodes (λ ino. file_hit ino (d.inode ino).use_of)

unfoldable pub dying_in : Disk → ℕ
dying_in d = total d.geometry.inodes (λ ino. dying_hit (d.inode ino).use_of)

-- how many pages have a mapping
unfoldable pub mapped_in : Disk → ℕ
mapped_in d = total d.geometry.pages (λ page. if mappings d page == 0 then 0 else 1)

-- these are the rows of the disk, in the order of their slots
pub record AreRowsOf (d : Disk) (rs : List Row) : Type 0 where
  pub sorted : AllPairs (λ (r s : Row). r.slot < s.slot) rs
  pub of_disk : (row : Row) → Contains rs row → Contains (rows d) row
  pub all : (row : Row) → Contains (rows d) row → Contains rs row

-- the numbers of a disk
pub record AreNumbersOf (d : Disk) (files dying : ℕ) (rs : List Row) (mapped free : ℕ)
    (exact : Bool) : Type 0 where
  pub files_are : files ≡ files_in d
  pub dying_are : dying ≡ dying_in d
  pub rows_are : AreRowsOf d rs
  pub mapped_are : mapped ≡ mapped_in d
  pub free_are : HasFree d free
  pub exact_is : (exact ≡ true) ↔ Exact d
