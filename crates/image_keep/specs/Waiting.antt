-- The items of live files that wait for the daemon after a mount.
use Rattle.std.specs.Prelude.{◌≡◌, ◌≢◌, ◌⊎◌, ℕ, zero, suc, ◌+◌, ◌<◌, ◌≤◌, List, [], ◌∷◌, ◌++◌, Some}
use Rattle.std.specs.Ordering.{nat_cmp}
use Rattle.std.specs.FinMap.{FinMap}
use Rattle.log_entry.specs.declared.item.Flag.{Flag}
use Rattle.log_entry.specs.declared.item.Flag.TheVariants.{Complete}
use Rattle.log_entry.specs.declared.item.LogItem.TheVariants.{Write}
use Rattle.dedupe_queue.specs.declared.Work.{Work}
use Rattle.file_index.specs.declared.page_map.Mapping.{Mapping as KeptMapping}
use Rattle.dn_model.specs.Log.{Log, Placed, placed}
use Rattle.dn_model.specs.Maps.{Mapping, mapping}
use Rattle.dn_model.specs.Disk.{Inode, Use, Free, Live, Dying}
use Rattle.image_keep.specs.Needed.{MapsStill}

-- an item of this log that isn't complete, and maps a place still
pub record IsOpenItem (log : Log) (p : Placed) : Type 0 where
  pub first : ℕ
  pub count : ℕ
  pub block : ℕ
  pub size : ℕ
  pub flag : Flag
  pub mask : ℕ
  pub item : p.item ≡ Write first count block size flag mask
  pub incomplete : flag ≢ Complete
  pub place : ℕ
  pub low : first ≤ place
  pub high : place < first + count
  pub by : Mapping
  pub mapped : mapping log place ≡ Some by
  pub slot_is : by.slot ≡ p.slot

-- so it is by the places that are kept of a log
pub record IsOpenBy (map : FinMap nat_cmp KeptMapping) (p : Placed) : Type 0 where
  pub first : ℕ
  pub count : ℕ
  pub block : ℕ
  pub size : ℕ
  pub flag : Flag
  pub mask : ℕ
  pub item : p.item ≡ Write first count block size flag mask
  pub incomplete : flag ≢ Complete
  pub still : MapsStill map p.slot first count

-- the work for an item of an inode whose log was not replaced since the mount
abbrev pub work_for : ℕ → Placed → Work
work_for ino p = record { ino = ino; round = 0; slot = p.slot }

-- these works are for those of the items that have a property, in their order
abbrev pub AreWorksOf : (Placed → Type 0) → ℕ → List Placed → List Work → Type 0
AreWorksOf Is ino [] works = works ≡ []
AreWorksOf Is ino (p ∷ ps) works =
    (Is p × ((later : List Work) × (works ≡ work_for ino p ∷ later) × AreWorksOf Is ino ps later))
    ⊎ ((Is p → ⊥) × AreWorksOf Is ino ps works)

-- those of an inode: only items of live files wait
abbrev pub WaitFor : ℕ → Use → Log → List Work → Type 0
WaitFor ino Free log works = works ≡ []
WaitFor ino Live log works = AreWorksOf (IsOpenItem log) ino (placed log) works
WaitFor ino (Dying cut) log works = works ≡ []

-- those of the inodes below the end, by inode and then by place in the log
unfoldable pub WaitBelow : (ℕ → Inode) → ℕ → List Work → Type 0
WaitBelow inode zero works = works ≡ []
WaitBelow inode (suc k) works =
    (before : List Work) × (more : List Work) × WaitBelow inode k before
    × WaitFor k (inode k).use_of (inode k).log more × (works ≡ before ++ more)
