-- A log of which one Write gets another flag or mask.
use Rattle.std.specs.Prelude.{
  ◌≡◌,
  ◌≢◌,
  ◌⊎◌,
  ℕ,
  ◌+◌,
  ◌*◌,
  ◌/◌,
  ◌^◌,
  ◌<◌,
  List,
  ◌∷◌,
  ◌++◌,
  length,
  slice_index,
}
use Rattle.pm_device.specs.State.{State}
use Rattle.pm_device.specs.Settled.{LeavesOnly}
use Rattle.pm_device.specs.Reading.{Reads, Stands}
use Rattle.pm_layout.specs.declared.Geometry.{Geometry}
use Rattle.log_entry.specs.Spelling.{spelled}
use Rattle.dn_model.specs.Log.{Log, LogSays, IsPaged, slot_name}
use Rattle.dn_model.specs.Valid.{IsLog}
use Rattle.log_entry.specs.declared.item.Flag.{Flag}
use Rattle.log_entry.specs.declared.item.LogItem.{LogItem}
use Rattle.log_entry.specs.declared.item.LogItem.TheVariants.{Write, Size, Add, Forget}

abbrev pub IsWrite : LogItem → Type 0
IsWrite (Write first n block size flag mask) = Unit {0}
IsWrite (Size size) = ⊥
IsWrite (Add ino name) = ⊥
IsWrite (Forget name) = ⊥

-- a Write with another flag, or with another mask
abbrev pub with_flag : Flag → LogItem → LogItem
with_flag f (Write first n block size flag mask) = Write first n block size f mask
with_flag f (Size size) = Size size
with_flag f (Add ino name) = Add ino name
with_flag f (Forget name) = Forget name

abbrev pub with_mask : ℕ → LogItem → LogItem
with_mask m (Write first n block size flag mask) = Write first n block size flag m
with_mask m (Size size) = Size size
with_mask m (Add ino name) = Add ino name
with_mask m (Forget name) = Forget name

-- the words of a slot that hold them
abbrev pub flag_word : ℕ → ℕ
flag_word slot = 8 * slot + 5

abbrev pub mask_word : ℕ → ℕ
mask_word slot = 8 * slot + 6

-- a Write of old stands at this slot, and new is old with this change of it
pub record Reflags (change : LogItem → LogItem) (slot : ℕ) (old new : Log) : Type 0 where
  pub front : List LogItem
  pub item : LogItem
  pub rest : List LogItem
  pub is_write : IsWrite item
  pub slot_is : slot ≡ slot_name old.pages (length (spelled front))
  pub pages : new.pages ≡ old.pages
  pub items : old.items ≡ front ++ item ∷ rest
  pub items' : new.items ≡ front ++ change item ∷ rest

-- and old stands in this inode's log
pub record CanReflag (g : Geometry) (change : LogItem → LogItem) (ino slot : ℕ) (old new : Log)
    (s : State) : Type 0 where
  pub in_table : ino < g.inodes
  pub paged : IsPaged g old
  pub reflags : Reflags change slot old new
  pub stands : Stands (LogSays ino old) s

-- each image left in the call has the old list or the new one
abbrev pub OldOrNewItem : Geometry → (LogItem → LogItem) → ℕ → State → State → Type 0
OldOrNewItem g change slot s t = (ino : ℕ) (old new : Log) → CanReflag g change ino slot old new s
    → LeavesOnly s t (λ c. Reads (LogSays ino old) c ⊎ Reads (LogSays ino new) c)

-- afterwards the new list stands
abbrev pub NewItemStands : Geometry → (LogItem → LogItem) → ℕ → State → State → Type 0
NewItemStands g change slot s t = (ino : ℕ) (old new : Log) → CanReflag g change ino slot old new s
    → Stands (LogSays ino new) t

-- this log stands, and none of its pages is this one
pub record IsElsewhere (g : Geometry) (ino page : ℕ) (log : Log) (s : State) : Type 0 where
  pub in_table : ino < g.inodes
  pub paged : IsPaged g log
  pub other : (k : ℕ) → k < length log.pages → slice_index log.pages k ≢ page
  pub stands : Stands (LogSays ino log) s

-- it stood in each image left in the call, and stands
pub record Stood (ino : ℕ) (log : Log) (s t : State) : Type 0 where
  pub images : LeavesOnly s t (Reads (LogSays ino log))
  pub stands : Stands (LogSays ino log) t

-- so do the logs that haven't the page of this slot
abbrev pub KeepsLogs : Geometry → ℕ → State → State → Type 0
KeepsLogs g slot s t = (ino : ℕ) (log : Log) → IsElsewhere g ino (slot / 64) log s
    → Stood ino log s t

-- how many pages a Write has
abbrev pub pages_written : LogItem → ℕ
pages_written (Write first n block size flag mask) = n
pages_written (Size size) = 0
pages_written (Add ino name) = 0
pages_written (Forget name) = 0

-- a log without a fault has none with another flag, or with another mask that has bits of the
-- Write's pages alone
abbrev pub FlagKeepsLog : Type 0
FlagKeepsLog = (g : Geometry) (ino : ℕ) (flag : Flag) (slot : ℕ) (old new : Log)
    → Reflags (with_flag flag) slot old new → IsLog g ino old → IsLog g ino new

abbrev pub MaskKeepsLog : Type 0
MaskKeepsLog = (g : Geometry) (ino m slot : ℕ) (old new : Log)
    (reflags : Reflags (with_mask m) slot old new) → m < 2 ^ pages_written reflags.item
    → IsLog g ino old → IsLog g ino new
