-- What becomes of a dying inode: its cut falls place by place, and in the end it is free.
use Rattle.std.specs.Prelude.{
  ◌≡◌,
  ◌≢◌,
  ◌⊎◌,
  ℕ,
  ◌+◌,
  ◌<◌,
  ◌≤◌,
  if◌then◌else◌,
  ◌==◌,
  List,
  Contains,
  Some,
  None,
  IsNone,
}
use Rattle.pm_layout.specs.Geometry.{inode_word}
use Rattle.dn_model.specs.Maps.{Mapping}
use Rattle.dn_model.specs.Table.{Row, row_of}
use Rattle.dn_model.specs.Disk.{Disk, Use, Free, Dying, IsMapped, maps, rows}
use Rattle.dn_model.specs.Counts.{mappings, IsLogPage, IsFree, Near, Exact}
use Rattle.dn_model.specs.Files.{named, bytes, files, IsSameFiles}
use Rattle.dn_model.specs.Own.{LivePlace, Settled}
use Rattle.dn_model.specs.Valid.{IsValid}

-- the cut becomes this place, or the inode is free
pub data Step : Type 0 where
  Falls : (cut : ℕ) → Step
  Ends : Step

abbrev pub use_after : Step → Use
use_after (Falls cut) = Dying cut
use_after Ends = Free

-- the word that decides, and its value
abbrev pub step_word : ℕ → Step → ℕ
step_word ino (Falls cut) = inode_word ino 3
step_word ino Ends = inode_word ino 0

abbrev pub step_value : Step → ℕ
step_value (Falls cut) = cut
step_value Ends = 0

-- the disk afterwards
unfoldable pub stepped : Disk → ℕ → Step → Disk
stepped d ino step = record {
  geometry = d.geometry;
  inode = λ i. if i == ino then record { use_of = use_after step; log = (d.inode ino).log } else
      d.inode i;
  chain = d.chain;
  pointer = d.pointer;
  word = d.word;
}

-- The cut of a dying inode may fall to its greatest mapped place. Where that page has a row, an
-- update of it is under
-- way, so that the row's count may be one more than the mappings.
pub record MayFall (d : Disk) (ino cut : ℕ) : Type 0 where
  pub valid : IsValid d
  pub in_table : ino < d.geometry.inodes
  pub before : ℕ
  pub dying : (d.inode ino).use_of ≡ Dying before
  pub by : Mapping
  pub mapped : maps d ino cut ≡ Some by
  pub greatest : (j : ℕ) → cut < j → j < before → maps d ino j ≡ None
  pub counted : (row : Row) → Contains (rows d) row → row.page ≡ by.block
      → row.rfc + 1 ≤ mappings d by.block + row.uc

-- a dying inode without mapped places may end
pub record MayEnd (d : Disk) (ino : ℕ) : Type 0 where
  pub valid : IsValid d
  pub in_table : ino < d.geometry.inodes
  pub before : ℕ
  pub dying : (d.inode ino).use_of ≡ Dying before
  pub unmapped : (j : ℕ) → maps d ino j ≡ None

-- the parts of the disk afterwards, one by one
pub record IsStepped (old : Disk) (ino : ℕ) (step : Step) (new : Disk) : Type 0 where
  pub geometry : new.geometry ≡ old.geometry
  pub here : new.inode ino ≡ record { use_of = use_after step; log = (old.inode ino).log }
  pub others : (i : ℕ) → i ≢ ino → new.inode i ≡ old.inode i
  pub chain : (prefix : ℕ) → new.chain prefix ≡ old.chain prefix
  pub pointer : (page : ℕ) → new.pointer page ≡ old.pointer page
  pub word : (page k : ℕ) → new.word page k ≡ old.word page k

-- names, files, live places, rows and the words of pages are what they were; no page comes to be
-- used
pub record KeepsLiving (old new : Disk) (ino : ℕ) : Type 0 where
  pub names : (name : List ℕ) → named new name ≡ named old name
  pub bytes_same : (i : ℕ) → i ≢ ino → bytes new i ≡ bytes old i
  pub files_same : IsSameFiles (files new) (files old)
  pub maps_others : (i idx : ℕ) → i ≢ ino → maps new i idx ≡ maps old i idx
  pub maps_only : (i idx : ℕ) (m : Mapping) → maps new i idx ≡ Some m → maps old i idx ≡ Some m
  pub live_kept : (i idx : ℕ) (m : Mapping) → LivePlace old i idx m → LivePlace new i idx m
  pub live_only : (i idx : ℕ) (m : Mapping) → LivePlace new i idx m → LivePlace old i idx m
  pub settled : Settled old → Settled new
  pub rows_same : rows new ≡ rows old
  pub mapped_only : (page : ℕ) → IsMapped new page → IsMapped old page
  pub log_pages_only : (page : ℕ) → IsLogPage new page → IsLogPage old page
  pub free_kept : (page : ℕ) → IsFree old page → IsFree new page

-- one mapping of this page is gone, and without a row the page is free
pub record DropsPlace (old new : Disk) (page : ℕ) : Type 0 where
  pub one_less : mappings new page + 1 ≡ mappings old page
  pub others : (other : ℕ) → other ≢ page → mappings new other ≡ mappings old other
  pub freed : IsNone (row_of (rows old) page) → IsFree new page
  pub free_only : (other : ℕ) → IsFree new other → IsFree old other ⊎ (other ≡ page)
  pub exact : IsNone (row_of (rows old) page) → Exact old → Exact new

-- its log pages are free, and no mapping is gone
pub record DropsLog (old new : Disk) (ino : ℕ) : Type 0 where
  pub maps_same : (i idx : ℕ) → maps new i idx ≡ maps old i idx
  pub mappings_same : (page : ℕ) → mappings new page ≡ mappings old page
  pub freed : (page : ℕ) → Contains (old.inode ino).log.pages page → IsFree new page
  pub free_only : (page : ℕ) → IsFree new page
      → IsFree old page ⊎ Contains (old.inode ino).log.pages page
  pub near : Near old → Near new
  pub exact : Exact old → Exact new
