-- A place of a live file is mapped to the page of a row with the same bytes: one Write more in its
-- log.
use Rattle.std.specs.Prelude.{
  ◌≡◌,
  ◌≢◌,
  ◌⊎◌,
  ℕ,
  ◌+◌,
  ◌*◌,
  ◌/◌,
  ◌<◌,
  ◌≤◌,
  List,
  [],
  ◌∷◌,
  ◌++◌,
  length,
  slice_index,
  Contains,
  Option,
  Some,
  IsNone,
}
use Rattle.pm_device.specs.State.{State, Agree}
use Rattle.pm_device.specs.Settled.{LeavesOnly, StoresOnly}
use Rattle.pm_device.specs.Reading.{Stands, IsReady}
use Rattle.pm_device.specs.Commit.{IsCommitted, IsDone}
use Rattle.pm_layout.specs.Geometry.{inode_word}
use Rattle.log_entry.specs.declared.item.Flag.TheVariants.{Complete}
use Rattle.log_entry.specs.declared.item.LogItem.TheVariants.{Write}
use Rattle.dn_model.specs.Log.{Log, count, tail_at}
use Rattle.dn_model.specs.Maps.{Mapping, size_of}
use Rattle.dn_model.specs.Table.{Row, row_of}
use Rattle.dn_model.specs.Disk.{Disk, DiskSays, Live, maps, rows}
use Rattle.dn_model.specs.Counts.{mappings, IsFree}
use Rattle.dn_model.specs.Files.{named, bytes, files, IsSameFiles}
use Rattle.dn_model.specs.Growth.{Prepared}
use Rattle.dn_model.specs.Valid.{IsValid}
use Rattle.dn_model.specs.Own.{Print, page_bytes, IsOwn}
use Rattle.dn_model.specs.Image.{StandsFor}
use Rattle.law_write.specs.Events.{IsUnused}
use Rattle.law_write.specs.WithLog.{grown_log}
use Rattle.law_log_swap.specs.Relogged.{relogged}
use Rattle.law_table_on_disk.specs.MappingLaws.{RemapsPlace, MovesMapping}
use Rattle.law_table_on_disk.specs.BalanceLaws.{IsBalanced}

-- the log afterwards, and the disk
abbrev pub shared_log : Disk → ℕ → ℕ → ℕ → List ℕ → Log
shared_log d ino idx page fresh = grown_log (d.inode ino).log fresh
    (Write idx 1 page (size_of (d.inode ino).log) Complete 0 ∷ [])

abbrev pub shared_disk : Disk → ℕ → ℕ → ℕ → List ℕ → Disk
shared_disk d ino idx page fresh = relogged d ino (shared_log d ino idx page fresh)

-- A page that is free afterwards: it was free and isn't taken, or the place was on it. That of a
-- row may have been free.
pub data IsLeft (d : Disk) (fresh : List ℕ) (was to page : ℕ) : Type 0 where
  was_free : IsFree d page → (Contains fresh page → ⊥) → page ≢ to → IsLeft d fresh was to page
  was_place : page ≡ was → IsLeft d fresh was to page

-- The place is mapped to a page without a row, of the same bytes as the row's page; an update of
-- the row is under way.
pub record MayShare (d : Disk) (ino idx : ℕ) (row : Row) (fresh : List ℕ) : Type 0 where
  pub valid : IsValid d
  pub file : 1 ≤ ino
  pub in_table : ino < d.geometry.inodes
  pub live : (d.inode ino).use_of ≡ Live
  pub by : Mapping
  pub mapped : maps d ino idx ≡ Some by
  pub no_row : IsNone (row_of (rows d) by.block)
  pub has : Contains (rows d) row
  pub equal : page_bytes d row.page ≡ page_bytes d by.block
  pub raised : mappings d row.page + 1 ≤ row.rfc + row.uc
  pub fresh_unused : (page : ℕ) → Contains fresh page → IsUnused d page
  pub fresh_apart : (j k : ℕ) → j < length fresh → k < length fresh
      → slice_index fresh j ≡ slice_index fresh k → j ≡ k
  pub room : length ((d.inode ino).log.pages ++ fresh) ≡ (count (d.inode ino).log + 1 + 62) / 63
  pub left : (p : ℕ) × (q : ℕ) × (p ≢ q) × IsLeft d fresh by.block row.page p × IsLeft d fresh
      by.block row.page q

-- a valid disk stays valid
abbrev pub ShareStaysValid : Type 0
ShareStaysValid = (d : Disk) (ino idx : ℕ) (row : Row) (fresh : List ℕ)
    → MayShare d ino idx row fresh → IsValid (shared_disk d ino idx row.page fresh)

-- while the tail moves, each image that a stop may leave stands for the disk of before or the disk
-- of after
abbrev pub ShareLeavesOldOrNew : Type 0
ShareLeavesOldOrNew = (d : Disk) (ino idx : ℕ) (row : Row) (fresh : List ℕ)
    → MayShare d ino idx row fresh
    → (who : ℕ) (s t : State) → Agree t.now t.past → length t.now ≡ 512 * d.geometry.pages
    → Stands (DiskSays d) s
    → IsReady who (Prepared ino (d.inode ino).log (shared_log d ino idx row.page fresh)) s
    → LeavesOnly s t (IsCommitted who (inode_word ino 2)
    (tail_at (shared_log d ino idx row.page fresh).pages
    (count (shared_log d ino idx row.page fresh))) s)
    → LeavesOnly s t (λ c. StandsFor c d ⊎ StandsFor c (shared_disk d ino idx row.page fresh))

-- once it has moved, the device stands for the disk of after
abbrev pub ShareStands : Type 0
ShareStands = (d : Disk) (ino idx : ℕ) (row : Row) (fresh : List ℕ) → MayShare d ino idx row fresh
    → (who : ℕ) (s t : State) → length s.now ≡ 512 * d.geometry.pages → Stands (DiskSays d) s
    → IsReady who (Prepared ino (d.inode ino).log (shared_log d ino idx row.page fresh)) s
    → IsDone who (inode_word ino 2) (tail_at (shared_log d ino idx row.page fresh).pages
    (count (shared_log d ino idx row.page fresh))) s t
    → StoresOnly (λ a. a ≡ inode_word ino 2) s t
    → Stands (DiskSays (shared_disk d ino idx row.page fresh)) t

-- the place is on the row's page, complete and not left alone, and no other place moves
pub record IsOnPage (m : Option Mapping) (page : ℕ) : Type 0 where
  pub by : Mapping
  pub is : m ≡ Some by
  pub block : by.block ≡ page
  pub flag : by.flag ≡ Complete
  pub mask : by.mask ≡ 0

pub record SharesPlace (old new : Disk) (ino idx page was : ℕ) : Type 0 where
  pub here : IsOnPage (maps new ino idx) page
  pub remaps : RemapsPlace ino idx old new
  pub moves : MovesMapping was page old new
  pub rows_same : rows new ≡ rows old
  pub size_same : size_of (new.inode ino).log ≡ size_of (old.inode ino).log

abbrev pub ShareMovesPlace : Type 0
ShareMovesPlace = (d : Disk) (ino idx : ℕ) (row : Row) (fresh : List ℕ)
    (may : MayShare d ino idx row fresh)
    → SharesPlace d (shared_disk d ino idx row.page fresh) ino idx row.page may.by.block

-- names and files are what they were
pub record KeepsFiles (old new : Disk) : Type 0 where
  pub names : (name : List ℕ) → named new name ≡ named old name
  pub bytes_same : (ino : ℕ) → bytes new ino ≡ bytes old ino
  pub files_same : IsSameFiles (files new) (files old)

abbrev pub ShareKeepsFiles : Type 0
ShareKeepsFiles = (d : Disk) (ino idx : ℕ) (row : Row) (fresh : List ℕ)
    → MayShare d ino idx row fresh → KeepsFiles d (shared_disk d ino idx row.page fresh)

-- the page that the place was on comes free, the row's page and the log's new pages are taken, and
-- no others
pub record FreesPage (old new : Disk) (fresh : List ℕ) (was to : ℕ) : Type 0 where
  pub freed : IsFree new was
  pub row_taken : IsFree new to → ⊥
  pub fresh_taken : (page : ℕ) → Contains fresh page → IsFree new page → ⊥
  pub kept : (page : ℕ) → IsFree old page → (Contains fresh page → ⊥) → page ≢ to → IsFree new page
  pub only : (page : ℕ) → IsFree new page → IsFree old page ⊎ (page ≡ was)

abbrev pub ShareFreesPage : Type 0
ShareFreesPage = (d : Disk) (ino idx : ℕ) (row : Row) (fresh : List ℕ)
    (may : MayShare d ino idx row fresh)
    → FreesPage d (shared_disk d ino idx row.page fresh) fresh may.by.block row.page

abbrev pub ShareStaysOwn : Type 0
ShareStaysOwn = (print : Print) (d : Disk) (ino idx : ℕ) (row : Row) (fresh : List ℕ)
    → MayShare d ino idx row fresh → IsOwn print d
    → IsOwn print (shared_disk d ino idx row.page fresh)

-- the raised update of the row has then added a mapping, and the other rows stay balanced
abbrev pub ShareKeepsBalance : Type 0
ShareKeepsBalance = (d : Disk) (ino idx : ℕ) (row : Row) (fresh : List ℕ)
    → MayShare d ino idx row fresh
    → (raised added dropped : ℕ) → IsBalanced d row (raised + 1) added dropped
    → IsBalanced (shared_disk d ino idx row.page fresh) row raised (added + 1) dropped

abbrev pub OtherRowsStayBalanced : Type 0
OtherRowsStayBalanced = (d : Disk) (ino idx : ℕ) (row : Row) (fresh : List ℕ)
    → MayShare d ino idx row fresh
    → (other : Row) → Contains (rows d) other → other ≢ row → (raised added dropped : ℕ)
    → IsBalanced d other raised added dropped
    → IsBalanced (shared_disk d ino idx row.page fresh) other raised added dropped
