-- How an operation on names changes a disk: the root's log grows, and one inode comes to life or is
-- dying.
use Rattle.std.specs.Prelude.{
  ◌≡◌,
  ◌≢◌,
  ℕ,
  ◌+◌,
  ◌/◌,
  ◌<◌,
  ◌≤◌,
  if◌then◌else◌,
  ◌==◌,
  List,
  [],
  ◌∷◌,
  ◌++◌,
  length,
  slice_index,
  Contains,
  All,
}
use Rattle.pm_device.specs.Pages.{SaysRun}
use Rattle.pm_layout.specs.Geometry.{inode_word}
use Rattle.log_entry.specs.Spelling.{IsSpelled, spelled, pages_of}
use Rattle.log_entry.specs.declared.item.LogItem.{LogItem}
use Rattle.dn_model.specs.Log.{Log, no_log, count, tail_at}
use Rattle.dn_model.specs.Maps.{size_of}
use Rattle.dn_model.specs.Disk.{Disk, Inode, Use, Free, Live, Dying}
use Rattle.dn_model.specs.Counts.{IsFree}
use Rattle.dn_model.specs.Growth.{Prepared}
use Rattle.dn_model.specs.Valid.{MayStand, IsLinked, IsValid}
use Rattle.law_write.specs.Events.{IsUnused}
use Rattle.law_write.specs.WithLog.{grown_log}
use Rattle.name_journal.specs.declared.change.Change.{Change}

-- what becomes of an inode: nothing, a free one comes to life, or a live one is dying
pub data Turn : Type 0 where
  Stays : Turn
  Comes : Turn
  Goes : Turn

-- The root's log gets these items more, on these fresh pages where its last has no room, and this
-- inode turns.
pub record NameChange : Type 0 where
  pub fresh : List ℕ
  pub more : List LogItem
  pub ino : ℕ
  pub turn : Turn

-- a dying inode keeps all that its size may have mapped
abbrev pub turned : Turn → Inode → Inode
turned Stays node = node
turned Comes node = record { use_of = Live; log = no_log }
turned Goes node = record { use_of = Dying (pages_of (size_of node.log)); log = node.log }

abbrev pub MayTurn : Turn → Use → Type 0
MayTurn Stays u = Unit {0}
MayTurn Comes u = u ≡ Free
MayTurn Goes u = u ≡ Live

-- the root's log afterwards
abbrev pub root_after : Disk → NameChange → Log
root_after d change = grown_log (d.inode 0).log change.fresh change.more

-- the disk afterwards
unfoldable pub names_changed : Disk → NameChange → Disk
names_changed d change = record {
  geometry = d.geometry;
  inode = λ i.
      if i == 0 then record { use_of = (d.inode 0).use_of; log = root_after d change }
      else if i == change.ino then turned change.turn (d.inode change.ino)
      else d.inode i;
  chain = d.chain;
  pointer = d.pointer;
  word = d.word;
}

-- the parts of the disk afterwards, one by one
pub record ChangesNames (old : Disk) (change : NameChange) (new : Disk) : Type 0 where
  pub geometry : new.geometry ≡ old.geometry
  pub root : new.inode 0 ≡ record { use_of = (old.inode 0).use_of; log = root_after old change }
  pub here : new.inode change.ino ≡ turned change.turn (old.inode change.ino)
  pub others : (i : ℕ) → 1 ≤ i → i ≢ change.ino → new.inode i ≡ old.inode i
  pub chain : (prefix : ℕ) → new.chain prefix ≡ old.chain prefix
  pub pointer : (page : ℕ) → new.pointer page ≡ old.pointer page
  pub word : (page k : ℕ) → new.word page k ≡ old.word page k

-- a free page that isn't taken
pub record IsSpared (d : Disk) (fresh : List ℕ) (page : ℕ) : Type 0 where
  pub free : IsFree d page
  pub not_fresh : Contains fresh page → ⊥

-- The root's log of a valid disk can get these items more on these pages, which are unused and just
-- hold them.
pub record MayGrowRoot (d : Disk) (fresh : List ℕ) (more : List LogItem) : Type 0 where
  pub valid : IsValid d
  pub fresh_unused : (page : ℕ) → Contains fresh page → IsUnused d page
  pub fresh_apart : (j k : ℕ) → j < length fresh → k < length fresh
      → slice_index fresh j ≡ slice_index fresh k → j ≡ k
  pub room : length ((d.inode 0).log.pages ++ fresh) ≡
      (count (d.inode 0).log + length (spelled more) + 62) / 63
  pub left : (p : ℕ) × (q : ℕ) × (p ≢ q) × IsSpared d fresh p × IsSpared d fresh q

-- So it may be changed: the items may stand in the root's log, the inode may turn, and each inode
-- keeps to its names.
pub record MayChange (d : Disk) (change : NameChange) : Type 0 where
  pub root : MayGrowRoot d change.fresh change.more
  pub spelled : All IsSpelled change.more
  pub standing : All (MayStand d.geometry 0) change.more
  pub file : 1 ≤ change.ino
  pub in_table : change.ino < d.geometry.inodes
  pub may_turn : MayTurn change.turn (d.inode change.ino).use_of
  pub links : (i : ℕ) → 1 ≤ i → i < d.geometry.inodes → IsLinked (names_changed d change) i
      ((names_changed d change).inode i).use_of

-- the words that change together: the root's tail, and the state of the inode that turns
abbrev pub tail_change : Disk → NameChange → Change
tail_change d change = record {
  at = inode_word 0 2;
  value = tail_at (root_after d change).pages
      (count (root_after d change));
}

abbrev pub state_changes : Turn → ℕ → List Change
state_changes Stays ino = []
state_changes Comes ino = record { at = inode_word ino 0; value = 1 } ∷ []
state_changes Goes ino = record { at = inode_word ino 0; value = 2 } ∷ []

abbrev pub name_changes : Disk → NameChange → List Change
name_changes d change = tail_change d change ∷ state_changes change.turn change.ino

-- what has to stand in the inode before: head, tail and cut of one that comes are 0, one that goes
-- has its cut
abbrev pub turn_field : Turn → ℕ
turn_field Stays = 1
turn_field Comes = 1
turn_field Goes = 3

abbrev pub turn_words : Turn → Log → List ℕ
turn_words Stays log = []
turn_words Comes log = 0 ∷ 0 ∷ 0 ∷ []
turn_words Goes log = pages_of (size_of log) ∷ []

abbrev pub TurnSays : Disk → NameChange → ℕ → ℕ → Type 0
TurnSays d change = SaysRun (inode_word change.ino (turn_field change.turn))
    (turn_words change.turn (d.inode change.ino).log)

-- what has to stand before the words change: what was prepared for the root, and in the inode
pub data FreshNames (d : Disk) (change : NameChange) (a v : ℕ) : Type 0 where
  in_root : Prepared 0 (d.inode 0).log (root_after d change) a v → FreshNames d change a v
  in_inode : TurnSays d change a v → FreshNames d change a v
