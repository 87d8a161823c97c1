-- A live inode gets another log, whose items map each place to the page that it had.
use Rattle.std.specs.Prelude.{◌≡◌, ◌≢◌, ◌⊎◌, ℕ, ◌<◌, List, Contains, Option, Some, None, option_map}
use Rattle.dn_model.specs.Log.{Log}
use Rattle.dn_model.specs.Maps.{Mapping, mapping, size_of}
use Rattle.dn_model.specs.Disk.{Disk, Live, IsMapped, maps, rows}
use Rattle.dn_model.specs.Counts.{mappings, IsLogPage, IsFree, Near, Exact}
use Rattle.dn_model.specs.Files.{named, named_after, bytes, files, IsSameFiles}
use Rattle.dn_model.specs.Valid.{IsLog, IsValid}
use Rattle.dn_model.specs.Own.{IsAlone, HasRow}
use Rattle.log_entry.specs.declared.item.Flag.TheVariants.{Complete}
use Rattle.law_write.specs.Events.{IsUnused}
use Rattle.law_write.specs.WithLog.{with_log}

-- the disk on which this inode has this log
abbrev pub relogged : Disk → ℕ → Log → Disk
relogged d ino log = with_log d ino log d.word

-- the page of a mapping
abbrev pub block_of : Option Mapping → Option ℕ
block_of = option_map (λ (m : Mapping). m.block)

-- The size is the same, and each place is on the same page; of the root, each name leads to the
-- same inode.
pub record KeepsPlaces (ino : ℕ) (old new : Log) : Type 0 where
  pub size : size_of new ≡ size_of old
  pub blocks : (idx : ℕ) → block_of (mapping new idx) ≡ block_of (mapping old idx)
  pub names : ino ≡ 0 → (name : List ℕ) → named_after name None new.items ≡ named_after name None
      old.items

-- a page that is free afterwards: it was free, or a page of the old log, and the new log doesn't
-- have it
pub data IsSpared (d : Disk) (ino : ℕ) (log : Log) (page : ℕ) : Type 0 where
  was_free : IsFree d page → (Contains log.pages page → ⊥) → IsSpared d ino log page
  was_log : Contains (d.inode ino).log.pages page → (Contains log.pages page → ⊥)
      → IsSpared d ino log page

-- A live inode of a valid disk may get this log: it has no fault, keeps the places, and takes
-- unused pages beside those
-- that it had.
pub record MayRelog (d : Disk) (ino : ℕ) (log : Log) : Type 0 where
  pub valid : IsValid d
  pub in_table : ino < d.geometry.inodes
  pub live : (d.inode ino).use_of ≡ Live
  pub good : IsLog d.geometry ino log
  pub keeps : KeepsPlaces ino (d.inode ino).log log
  pub pages : (page : ℕ) → Contains log.pages page → Contains (d.inode ino).log.pages page
      ⊎ IsUnused d page
  pub left : (p : ℕ) × (q : ℕ) × (p ≢ q) × IsSpared d ino log p × IsSpared d ino log q

-- the parts of the disk afterwards, one by one
pub record IsRelogged (old : Disk) (ino : ℕ) (log : Log) (new : Disk) : Type 0 where
  pub geometry : new.geometry ≡ old.geometry
  pub log_here : (new.inode ino).log ≡ log
  pub use_here : (new.inode ino).use_of ≡ (old.inode ino).use_of
  pub others : (i : ℕ) → i ≢ ino → new.inode i ≡ old.inode i
  pub chain : (prefix : ℕ) → new.chain prefix ≡ old.chain prefix
  pub pointer : (page : ℕ) → new.pointer page ≡ old.pointer page
  pub word : (page k : ℕ) → new.word page k ≡ old.word page k

-- Each place is on its page, each name leads where it led, and files, rows and counts are what they
-- were.
pub record KeepsData (old new : Disk) (ino : ℕ) : Type 0 where
  pub blocks : (i idx : ℕ) → block_of (maps new i idx) ≡ block_of (maps old i idx)
  pub maps_others : (i idx : ℕ) → i ≢ ino → maps new i idx ≡ maps old i idx
  pub mappings_same : (page : ℕ) → mappings new page ≡ mappings old page
  pub mapped_kept : (page : ℕ) → IsMapped old page → IsMapped new page
  pub mapped_only : (page : ℕ) → IsMapped new page → IsMapped old page
  pub rows_same : rows new ≡ rows old
  pub names : (name : List ℕ) → named new name ≡ named old name
  pub sizes : (i : ℕ) → size_of (new.inode i).log ≡ size_of (old.inode i).log
  pub bytes_same : (i : ℕ) → bytes new i ≡ bytes old i
  pub files_same : IsSameFiles (files new) (files old)
  pub near : Near old → Near new
  pub exact : Exact old → Exact new

-- The pages of the new log are taken, those of the old one that it hasn't come free, and no others.
pub record MovesLog (old new : Disk) (ino : ℕ) (log : Log) : Type 0 where
  pub taken : (page : ℕ) → Contains log.pages page → IsFree new page → ⊥
  pub freed : (page : ℕ) → Contains (old.inode ino).log.pages page → (Contains log.pages page → ⊥)
      → IsFree new page
  pub free_kept : (page : ℕ) → IsFree old page → (Contains log.pages page → ⊥) → IsFree new page
  pub free_only : (page : ℕ) → IsFree new page
      → IsFree old page ⊎ Contains (old.inode ino).log.pages page
  pub log_pages_only : (page : ℕ) → IsLogPage new page → IsLogPage old page ⊎ Contains log.pages
      page

-- The new log calls a place complete only where it is left alone or its page has a row.
abbrev pub TellsDone : Disk → Log → Type 0
TellsDone d log = (idx : ℕ) (m : Mapping) → mapping log idx ≡ Some m → m.flag ≡ Complete
    → IsAlone m ⊎ HasRow d m.block

-- what was complete and left alone is so still
abbrev pub KeepsDone : Log → Log → Type 0
KeepsDone old new = (idx : ℕ) (m n : Mapping) → mapping old idx ≡ Some m → mapping new idx ≡ Some n
    → (m.flag ≡ Complete → n.flag ≡ Complete) × (IsAlone m → IsAlone n)
