-- A log is replaced by one with the same mappings on other pages: head and tail change together.
use Rattle.std.specs.Prelude.{
  ◌≡◌,
  ◌≢◌,
  ◌⊎◌,
  ℕ,
  ◌+◌,
  ◌*◌,
  ◌<◌,
  ◌≤◌,
  List,
  [],
  ◌∷◌,
  length,
  slice_index,
  Contains,
  Option,
  Some,
  None,
}
use Rattle.pm_device.specs.State.{State, Agree}
use Rattle.pm_device.specs.Settled.{LeavesOnly, StoresOnly}
use Rattle.pm_device.specs.Reading.{Said, Stands, IsReady}
use Rattle.pm_layout.specs.Geometry.{inode_word}
use Rattle.dn_model.specs.Log.{Log, count, tail_at, log_word, footer_word, spelled_word}
use Rattle.dn_model.specs.Maps.{Mapping, mapping, size_of}
use Rattle.dn_model.specs.Disk.{Disk, DiskSays, Live}
use Rattle.dn_model.specs.Counts.{IsFree}
use Rattle.dn_model.specs.Files.{named_after}
use Rattle.dn_model.specs.Own.{Print, IsAlone, IsOwn, Settled}
use Rattle.dn_model.specs.Image.{StandsFor}
use Rattle.dn_model.specs.Valid.{IsLog, IsValid}
use Rattle.law_write.specs.Events.{IsUnused}
use Rattle.name_journal.specs.declared.change.Change.{Change}
use Rattle.name_journal.specs.AllOrNone.{AllOrNone, IsAllDone}
use Rattle.law_names.specs.AllOrNoneLaws.{FreshWord, AreAllOrNone}
use Rattle.law_names.specs.NameLaws.{StandsStill}
use Rattle.law_log_swap.specs.Relogged.{relogged, IsSpared, MayRelog}

-- on the same page, with the same flag, and left alone or not
pub record IsAlike (m n : Mapping) : Type 0 where
  pub block : n.block ≡ m.block
  pub flag : n.flag ≡ m.flag
  pub alone : IsAlone m → IsAlone n
  pub not_more : IsAlone n → IsAlone m

abbrev pub AreAlike : Option Mapping → Option Mapping → Type 0
AreAlike None None = Unit {0}
AreAlike None (Some n) = ⊥
AreAlike (Some m) None = ⊥
AreAlike (Some m) (Some n) = IsAlike m n

-- The log of a live inode may be replaced by this one, on unused pages: it has the same size and
-- maps each place alike;
-- of the root, each name leads to the same inode.
pub record MayReplace (d : Disk) (ino : ℕ) (log : Log) : Type 0 where
  pub valid : IsValid d
  pub in_table : ino < d.geometry.inodes
  pub live : (d.inode ino).use_of ≡ Live
  pub good : IsLog d.geometry ino log
  pub size : size_of log ≡ size_of (d.inode ino).log
  pub alike : (idx : ℕ) → AreAlike (mapping (d.inode ino).log idx) (mapping log idx)
  pub names : ino ≡ 0 → (name : List ℕ) → named_after name None log.items ≡ named_after name None
      (d.inode ino).log.items
  pub unused : (page : ℕ) → Contains log.pages page → IsUnused d page
  pub left : (p : ℕ) × (q : ℕ) × (p ≢ q) × IsSpared d ino log p × IsSpared d ino log q

-- a log of two pages leaves two pages free, if its pages aren't taken
abbrev pub TwoPagesAreSpared : Type 0
TwoPagesAreSpared = (d : Disk) (ino : ℕ) (log : Log) → IsValid d → ino < d.geometry.inodes
    → (d.inode ino).use_of ≡ Live
    → ((page : ℕ) → Contains log.pages page → IsUnused d page) → 2 ≤ length (d.inode ino).log.pages
    → (p : ℕ) × (q : ℕ) × (p ≢ q) × IsSpared d ino log p × IsSpared d ino log q

-- it keeps the places
abbrev pub ReplacedKeepsPlaces : Type 0
ReplacedKeepsPlaces = (d : Disk) (ino : ℕ) (log : Log) → MayReplace d ino log → MayRelog d ino log

-- The words that change together. Of a log without items the tail is 0, and the head is not read.
abbrev pub log_changes : ℕ → Log → List Change
log_changes ino log = record { at = inode_word ino 1; value = slice_index log.pages 0 } ∷ record
    { at = inode_word ino 2; value = tail_at log.pages (count log) } ∷ []

-- what has to stand before: the links between the log's pages, and its slots
pub data BodySays (log : Log) (a v : ℕ) : Type 0 where
  body_footer : (k : ℕ) → k + 1 < length log.pages → a ≡ footer_word log.pages k
      → v ≡ slice_index log.pages (k + 1) → BodySays log a v
  body_slot : (k j : ℕ) → k < count log → j < 8 → a ≡ log_word log.pages k j
      → v ≡ spelled_word log k j → BodySays log a v

-- the disk says nothing of it before
abbrev pub BodyIsUnread : Type 0
BodyIsUnread = (d : Disk) (ino : ℕ) (log : Log) → MayReplace d ino log → (a v w : ℕ)
    → BodySays log a v → DiskSays d a w → ⊥

-- while it is stored the disk stands, and so does each image that a stop may leave
abbrev pub BodyStoresChangeNothing : Type 0
BodyStoresChangeNothing = (d : Disk) (ino : ℕ) (log : Log) → MayReplace d ino log → (s t : State)
    → StoresOnly (Said (BodySays log)) s t
    → Stands (DiskSays d) s → Agree t.now t.past → length t.now ≡ 512 * d.geometry.pages
    → StandsStill d s t

-- head and tail decide together
abbrev pub ReplaceIsAllOrNone : Type 0
ReplaceIsAllOrNone = (d : Disk) (ino : ℕ) (log : Log) → MayReplace d ino log
    → AreAllOrNone d (relogged d ino log) (log_changes ino log)

abbrev pub BodySuffices : Type 0
BodySuffices = (d : Disk) (ino : ℕ) (log : Log) → MayReplace d ino log
    → (who : ℕ) (s : State) → IsReady who (BodySays log) s
    → IsReady who (FreshWord d (relogged d ino log) (log_changes ino log)) s

-- while they change, each image that a stop may leave stands for the disk of before or the disk of
-- after
abbrev pub ReplaceLeavesOldOrNew : Type 0
ReplaceLeavesOldOrNew = (d : Disk) (ino : ℕ) (log : Log) → MayReplace d ino log
    → (who : ℕ) (s t : State) → Agree s.now s.past → length s.now ≡ 512 * d.geometry.pages
    → Stands (DiskSays d) s → IsReady who (BodySays log) s
    → LeavesOnly s t (AllOrNone d.geometry.inodes who (log_changes ino log) s)
    → LeavesOnly s t (λ c. StandsFor c d ⊎ StandsFor c (relogged d ino log))

-- once they have changed, the device stands for the disk of after
abbrev pub ReplaceStands : Type 0
ReplaceStands = (d : Disk) (ino : ℕ) (log : Log) → MayReplace d ino log
    → (who : ℕ) (s t : State) → Agree s.now s.past → length s.now ≡ 512 * d.geometry.pages
    → Stands (DiskSays d) s → IsReady who (BodySays log) s
    → IsAllDone who (log_changes ino log) s t → Stands (DiskSays (relogged d ino log)) t

-- The old log's pages come free, those of the new one are taken, and no others.
pub record SwapsLog (old new : Disk) (ino : ℕ) (log : Log) : Type 0 where
  pub were_free : (page : ℕ) → Contains log.pages page → IsFree old page
  pub taken : (page : ℕ) → Contains log.pages page → IsFree new page → ⊥
  pub freed : (page : ℕ) → Contains (old.inode ino).log.pages page → IsFree new page
  pub kept : (page : ℕ) → IsFree old page → (Contains log.pages page → ⊥) → IsFree new page
  pub only : (page : ℕ) → IsFree new page → IsFree old page ⊎ Contains (old.inode ino).log.pages
      page

abbrev pub ReplaceSwapsLog : Type 0
ReplaceSwapsLog = (d : Disk) (ino : ℕ) (log : Log) → MayReplace d ino log
    → SwapsLog d (relogged d ino log) ino log

abbrev pub ReplaceStaysOwn : Type 0
ReplaceStaysOwn = (print : Print) (d : Disk) (ino : ℕ) (log : Log) → MayReplace d ino log
    → IsOwn print d → IsOwn print (relogged d ino log)

abbrev pub ReplaceStaysSettled : Type 0
ReplaceStaysSettled = (d : Disk) (ino : ℕ) (log : Log) → MayReplace d ino log → Settled d
    → Settled (relogged d ino log)
