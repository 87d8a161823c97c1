-- What all logs of an image say of its pages, its inodes and its names.
use Rattle.std.specs.Prelude.{
  ◌≡◌,
  ◌≢◌,
  ℕ,
  ◌+◌,
  ◌<◌,
  ◌≤◌,
  if◌then◌else◌,
  ◌==◌,
  List,
  length,
  slice_index,
  map,
  All,
  Option,
  Some,
  None,
}
use Rattle.std.specs.List.{list_any}
use Rattle.std.specs.FinMap.{get}
use Rattle.pm_device.specs.Reading.{Reads}
use Rattle.pm_layout.specs.declared.Geometry.{Geometry}
use Rattle.pm_layout.specs.Geometry.{inode_word}
use Rattle.dn_model.specs.Log.{Log, placed}
use Rattle.dn_model.specs.LogFault.{LogFault}
use Rattle.dn_model.specs.Maps.{mapping}
use Rattle.dn_model.specs.Disk.{Disk, Use, Free, Live, Dying, InodesSay, LogsSay, IsUsed}
use Rattle.dn_model.specs.Counts.{total, hit, mappings}
use Rattle.dn_model.specs.Numbers.{files_in, dying_in}
use Rattle.dn_model.specs.Files.{named}
use Rattle.dn_model.specs.Valid.{IsLog}
use Rattle.dn_model.specs.Faults.{IsLeast}
use Rattle.log_walk.specs.Laws.{ReadsAs}
use Rattle.log_walk.specs.Items.{seen}
use Rattle.file_scan.specs.Index.{MayBeIndexed, IsIndexOf}
use Rattle.file_scan.specs.Names.{IsNamesOf}
use Rattle.image_logs.specs.declared.logs.LogsRead.{LogsRead}
use Rattle.image_logs.specs.declared.logs.FileLog.{FileLog}
use Rattle.image_logs.specs.declared.logs.UsedInode.{UsedInode}
use Rattle.image_logs.specs.declared.logs.LogsFault.{LogsFault}
use Rattle.image_logs.specs.declared.logs.LogsFault.TheVariants.{BadLog, NoMemory}

-- the inode is live or dying
abbrev pub IsInUse : List ℕ → ℕ → Type 0
IsInUse c ino = slice_index c (inode_word ino 0) ≢ 0

-- a state whose inodes and logs these words say, none of which has a fault
pub record IsSaid (g : Geometry) (c : List ℕ) (d : Disk) : Type 0 where
  pub geometry : d.geometry ≡ g
  pub inodes : Reads (InodesSay d) c
  pub root : (d.inode 0).use_of ≡ Live
  pub logs : Reads (LogsSay d) c
  pub valid : (ino : ℕ) → ino < d.geometry.inodes → IsUsed (d.inode ino).use_of
      → IsLog d.geometry ino (d.inode ino).log

-- 1 where the log has the page
abbrev pub log_page : Log → ℕ → ℕ
log_page log page = if list_any (λ q. q == page) log.pages then 1 else 0

-- 1 where the inode is used and its log has the page
abbrev pub log_hit : ℕ → Use → Log → ℕ
log_hit page Free log = 0
log_hit page Live log = log_page log page
log_hit page (Dying cut) log = log_page log page

-- how many logs of used inodes have the page
unfoldable pub logs_with : Disk → ℕ → ℕ
logs_with d page = total d.geometry.inodes
    (λ ino. log_hit page (d.inode ino).use_of (d.inode ino).log)

-- so the logs of this state are read
pub record AreCounted (d : Disk) (read : LogsRead) : Type 0 where
  pub in_logs : (page : ℕ) → page < d.geometry.pages → slice_index read.in_logs.items
      page ≡ logs_with d page
  pub mapped : (page : ℕ) → page < d.geometry.pages → slice_index read.mapped.items page ≡ mappings
      d page
  pub files : read.files ≡ files_in d
  pub dying : read.dying ≡ dying_in d
  pub names : (name : List ℕ) → get read.names.map name ≡ named d name

-- no log of a used inode has a fault, and what was read is so for each state that the words say
pub record AreRead (g : Geometry) (c : List ℕ) (read : LogsRead) : Type 0 where
  pub faultless : (ino place : ℕ) → ino < g.inodes → IsInUse c ino → LogFault g c ino place → ⊥
  pub long_logs : length read.in_logs.items ≡ g.pages
  pub long_mapped : length read.mapped.items ≡ g.pages
  pub counted : (d : Disk) → IsSaid g c d → AreCounted d read

-- the first log of a used inode that has a fault
pub record IsFirstBad (g : Geometry) (c : List ℕ) (ino place : ℕ) : Type 0 where
  pub in_table : ino < g.inodes
  pub used : IsInUse c ino
  pub fault : LogFault g c ino place
  pub first : (i n : ℕ) → i < ino → IsInUse c i → LogFault g c i n → ⊥

abbrev pub IsFirstFault : Geometry → List ℕ → LogsFault → Type 0
IsFirstFault g c (BadLog ino place) = IsFirstBad g c ino place
IsFirstFault g c NoMemory = Unit {0}

-- so it is with the inodes of a state
pub record IsFaultIn (d : Disk) (c : List ℕ) (ino place : ℕ) : Type 0 where
  pub used : IsUsed (d.inode ino).use_of
  pub fault : LogFault d.geometry c ino place
  pub least : IsLeast d.geometry.inodes
      (λ i. IsUsed (d.inode i).use_of × ((n : ℕ) × LogFault d.geometry c i n)) ino

abbrev pub IsFaultOfEach : Geometry → List ℕ → LogsFault → Type 0
IsFaultOfEach g c (BadLog ino place) = (d : Disk) → d.geometry ≡ g → Reads (InodesSay d) c
    → IsFaultIn d c ino place
IsFaultOfEach g c NoMemory = Unit {0}

-- what is kept of one log more, of which the places below the end are counted
pub record AddsLog (g : Geometry) (c : List ℕ) (ino end : ℕ) (old new : LogsRead) : Type 0 where
  pub faultless : (place : ℕ) → LogFault g c ino place → ⊥
  pub files : new.files ≡ old.files
  pub dying : new.dying ≡ old.dying
  pub same_names : ino ≢ 0 → new.names.map ≡ old.names.map
  pub root_names : ino ≡ 0 → (log : Log) → ReadsAs g c 0 log → IsNamesOf log new.names.map
  pub long_logs : length new.in_logs.items ≡ length old.in_logs.items
  pub long_mapped : length new.mapped.items ≡ length old.mapped.items
  pub few_logs : (p : ℕ) → p < g.pages → slice_index new.in_logs.items p ≤ slice_index
      old.in_logs.items p + 65536
  pub few_mapped : (p : ℕ) → p < g.pages → slice_index new.mapped.items p ≤ slice_index
      old.mapped.items p + 4096
  pub in_logs : (log : Log) → ReadsAs g c ino log → (p : ℕ) → p < g.pages
      → slice_index new.in_logs.items p ≡ slice_index old.in_logs.items p + log_page log p
  pub mapped : (log : Log) → ReadsAs g c ino log → (p : ℕ) → p < g.pages
      → slice_index new.mapped.items p ≡ slice_index old.mapped.items p + total end
      (λ idx. hit p (mapping log idx))

-- the counts so far leave room for one log more
pub record HasRoom (g : Geometry) (read : LogsRead) : Type 0 where
  pub long_logs : length read.in_logs.items ≡ g.pages
  pub long_mapped : length read.mapped.items ≡ g.pages
  pub logs : (p : ℕ) → p < g.pages → slice_index read.in_logs.items p + 65536 < 4294967296
  pub mapped : (p : ℕ) → p < g.pages → slice_index read.mapped.items p + 4096 < 4294967296

-- the log of this inode has this fault
abbrev pub IsOneFault : Geometry → List ℕ → ℕ → LogsFault → Type 0
IsOneFault g c ino (BadLog i place) = (i ≡ ino) × LogFault g c ino place
IsOneFault g c ino NoMemory = Unit {0}

-- a used inode of this state counts as dying, or as a file, or is the root; nothing else changes
pub record CountsUse (ino state : ℕ) (old new : LogsRead) : Type 0 where
  pub root : state ≡ 1 → ino ≡ 0 → new ≡ old
  pub file : state ≡ 1 → ino ≢ 0 → new ≡ record old { files = old.files + 1 }
  pub dying : state ≢ 1 → new ≡ record old { dying = old.dying + 1 }

-- the end of the places that are mapped of a used inode with this state and this cut
pub record IsEnd (state cut end : ℕ) : Type 0 where
  pub live : state ≡ 1 → end ≡ 4096
  pub below : state ≢ 1 → cut ≤ 4096 → end ≡ cut
  pub past : state ≢ 1 → 4096 ≤ cut → end ≡ 4096
  pub most : end ≤ 4096

-- what is kept of one inode more
pub data AddsInode (g : Geometry) (c : List ℕ) (ino : ℕ) (old new : LogsRead) : Type 0 where
  adds_none : slice_index c (inode_word ino 0) ≡ 0 → new ≡ old → AddsInode g c ino old new
  adds_log : (end : ℕ) (mid : LogsRead) → IsInUse c ino → IsEnd (slice_index c (inode_word ino 0))
      (slice_index c (inode_word ino 3)) end
      → AddsLog g c ino end old mid → CountsUse ino (slice_index c (inode_word ino 0)) mid new
      → AddsInode g c ino old new

pub record IsEmptyRead (g : Geometry) (read : LogsRead) : Type 0 where
  pub long_logs : length read.in_logs.items ≡ g.pages
  pub long_mapped : length read.mapped.items ≡ g.pages
  pub logs : (p : ℕ) → slice_index read.in_logs.items p ≡ 0
  pub mapped : (p : ℕ) → slice_index read.mapped.items p ≡ 0
  pub files : read.files ≡ 0
  pub dying : read.dying ≡ 0

-- this is read of the log that the words hold
pub record IsLogOf (g : Geometry) (c : List ℕ) (ino : ℕ) (log : FileLog) : Type 0 where
  pub index : (l : Log) → ReadsAs g c ino l → IsIndexOf l log.index
  pub pages : (l : Log) → ReadsAs g c ino l → length l.pages ≡ log.pages
  pub items : (l : Log) → ReadsAs g c ino l → map seen log.items.items ≡ placed l
  pub indexed : All MayBeIndexed log.items.items
  pub small : log.index.size ≤ 16777216

-- this is read of an inode, which is used, with these fields
pub record IsUsedAt (g : Geometry) (c : List ℕ) (ino : ℕ) (used : UsedInode) : Type 0 where
  pub in_use : IsInUse c ino
  pub state : used.slot.state ≡ slice_index c (inode_word ino 0)
  pub cut : used.slot.cut ≡ slice_index c (inode_word ino 3)
  pub log : IsLogOf g c ino used.log

-- and it is answered just where the inode is used
abbrev pub IsFoundAt : Geometry → List ℕ → ℕ → Option UsedInode → Type 0
IsFoundAt g c ino None = slice_index c (inode_word ino 0) ≡ 0
IsFoundAt g c ino (Some used) = IsUsedAt g c ino used
