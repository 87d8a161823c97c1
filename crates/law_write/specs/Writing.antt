-- The event of a write: Write items more in the log of a live file, all of one size, that map
-- places of the file to new pages.
use Rattle.std.specs.Prelude.{
  ◌≡◌,
  ◌≢◌,
  ◌⊎◌,
  ℕ,
  suc,
  ◌+◌,
  ◌-◌,
  ◌*◌,
  ◌/◌,
  ◌<◌,
  ◌≤◌,
  max,
  List,
  length,
  slice_index,
  Option,
  Some,
  Contains,
  All,
}
use Rattle.log_entry.specs.Spelling.{IsSpelled}
use Rattle.log_entry.specs.declared.item.Flag.TheVariants.{Needed}
use Rattle.dn_model.specs.Log.{IsPaged}
use Rattle.dn_model.specs.Maps.{Mapping, cut_to, size_of}
use Rattle.dn_model.specs.Disk.{Disk, Live, maps}
use Rattle.dn_model.specs.Counts.{IsFree, Near}
use Rattle.dn_model.specs.Files.{bytes, byte_of}
use Rattle.dn_model.specs.Growth.{IsGrown, Prepared}
use Rattle.dn_model.specs.Valid.{MayStand, IsValid}
use Rattle.law_write.specs.Events.{Relogs, IsUnused}

-- mapped to this page by an item that the daemon has not worked on
pub record IsNewMapping (m : Option Mapping) (block : ℕ) : Type 0 where
  pub by : Mapping
  pub is : m ≡ Some by
  pub page : by.block ≡ block
  pub flag : by.flag ≡ Needed
  pub mask : by.mask ≡ 0

-- Place first + i is mapped to page blocks i, for each i below n; the other places are what they
-- were, as far as the size goes.
pub record Writes (ino : ℕ) (old new : Disk) : Type 0 where
  pub relogs : Relogs ino old new
  pub grown : IsGrown (old.inode ino).log (new.inode ino).log
  pub paged : IsPaged old.geometry (old.inode ino).log
  pub in_table : ino < old.geometry.inodes
  pub live : (old.inode ino).use_of ≡ Live
  pub first : ℕ
  pub n : ℕ
  pub size : ℕ
  pub blocks : ℕ → ℕ
  pub apart : (i j : ℕ) → i < n → j < n → blocks i ≡ blocks j → i ≡ j
  pub own : (i : ℕ) → i < n → IsNewMapping (maps new ino (first + i)) (blocks i)
  pub other : (idx : ℕ) → (idx < first) ⊎ (first + n ≤ idx) → maps new ino idx ≡ cut_to size idx
      (maps old ino idx)
  pub last_size : size_of (new.inode ino).log ≡ size

-- the event takes unused pages
pub record WritesWell (ino : ℕ) (old new : Disk) (w : Writes ino old new) : Type 0 where
  pub valid : IsValid old
  pub k : ℕ
  pub file : ino ≡ suc k
  pub paged' : IsPaged old.geometry (new.inode ino).log
  pub spelled : All IsSpelled w.grown.more
  pub standing : All (MayStand old.geometry ino) w.grown.more
  pub fresh : (page : ℕ) → Contains w.grown.fresh page → IsUnused old page
  pub blocks : (i : ℕ) → i < w.n → IsUnused old (w.blocks i)
  pub apart : (i : ℕ) → i < w.n → Contains w.grown.fresh (w.blocks i) → ⊥
  pub near : Near new
  pub roomy : (p : ℕ) × (q : ℕ) × (p ≢ q) × IsFree new p × IsFree new q

-- what the event stores of a text that is written from byte at on, and what it finds
pub record WritesBytes (ino : ℕ) (old new : Disk) (w : Writes ino old new) (at : ℕ) (text : List ℕ)
    : Type 0 where
  pub size : w.size ≡ max (length (bytes old ino)) (at + length text)
  -- the items cover the pages that the text touches
  pub covers : (j : ℕ) → at ≤ j → j < at + length text
      → (w.first ≤ j / 4096) × (j / 4096 < w.first + w.n)
  -- each new page has the old bytes of its place, with the text put in
  pub inside : (k i : ℕ) → k < w.n → i < 4096 → at ≤ 4096 * (w.first + k) + i
      → 4096 * (w.first + k) + i < at + length text
      → byte_of new (w.blocks k) i ≡ slice_index text (4096 * (w.first + k) + i - at)
  pub outside : (k i : ℕ) → k < w.n → i < 4096
      → (at ≤ 4096 * (w.first + k) + i → 4096 * (w.first + k) + i < at + length text → ⊥)
      → byte_of new (w.blocks k) i ≡ slice_index (bytes old ino) (4096 * (w.first + k) + i)
  -- what is mapped past the old end holds zeros
  pub zeros : (idx k : ℕ) (m : Mapping) → maps old ino idx ≡ Some m → k < 4096
      → size_of (old.inode ino).log ≤ 4096 * idx + k → byte_of old m.block k ≡ 0

-- the page was that of a place which the event maps anew
pub record IsOverwritten (ino : ℕ) (old new : Disk) (w : Writes ino old new) (page : ℕ) : Type 0
  where
    pub i : ℕ
    pub below : i < w.n
    pub by : Mapping
    pub was : maps old ino (w.first + i) ≡ Some by
    pub block : by.block ≡ page

-- a word of a page of the event, and what it is afterwards
pub record IsBlockWord (ino : ℕ) (old new : Disk) (w : Writes ino old new) (a v : ℕ) : Type 0 where
  pub i : ℕ
  pub below : i < w.n
  pub k : ℕ
  pub in_page : k < 512
  pub place : a ≡ 512 * w.blocks i + k
  pub value : v ≡ new.word (w.blocks i) k

-- the words that have to stand before the tail moves: those that are prepared for the log, and
-- those of the event's pages
abbrev pub IsStored : (ino : ℕ) (old new : Disk) → Writes ino old new → ℕ → ℕ → Type 0
IsStored ino old new w a v = Prepared ino (old.inode ino).log (new.inode ino).log a v ⊎ IsBlockWord
    ino old new w a v
