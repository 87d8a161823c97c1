-- What a cleaning has as it begins: it is planned, there is room for it, and reclaim holds its inode.
use Rattle.std.specs.Prelude.{◌≡◌, ℕ, ◌+◌, ◌*◌, ◌^◌, ◌<◌, ◌≤◌, List, length, Some}
use Rattle.std.specs.Option.{option_map}
use Rattle.std.specs.FinMap.{get}
use Rattle.pm_device.specs.State.{State}
use Rattle.log_entry.specs.Spelling.{spelled}
use Rattle.file_content.specs.Content.{kept}
use Rattle.file_write.specs.Take.{TakesFirst}
use Rattle.dn_model.specs.Log.{Log, placed}
use Rattle.dn_model.specs.Maps.{mapping}
use Rattle.dn_model.specs.Disk.{Disk}
use Rattle.law_clean.specs.Cleaned.{cleaned_items, pages_for}
use Rattle.dn_volume.specs.declared.units.TheConstants as cost
use Rattle.dn_volume.specs.declared.background.Cleaning.{Cleaning}
use Rattle.dn_volume.specs.declared.volume.InodeState.{InodeState}
use Rattle.dn_volume.specs.declared.volume.Parts.{Parts}
use Rattle.dn_volume.specs.declared.volume.Volume.{Volume}
use Rattle.dn_volume.specs.Agrees.{IsVolume}
use Rattle.dn_volume.specs.Cleans.{new_log, due_slots}
use Rattle.dn_volume.specs.Events.{Counts}
use Rattle.dn_volume.specs.Kept.{OfInodes}
use Rattle.log_clean.specs.declared.plan.Remains.{Remains}
use Rattle.log_clean.specs.Planning.{IsLaidOut}

-- the cleaning has these items on these pages, none of which is written
pub record IsPlanOf (ino : ℕ) (pages : List ℕ) (remains : Remains) (c : Cleaning) : Type 0 where
  pub ino_is : c.ino ≡ ino
  pub slots_are : c.slots.items ≡ remains.slots.items
  pub pages_are : c.pages.items ≡ pages
  pub none_written : c.written ≡ 0
  pub laid : (log : Log) → log.pages ≡ pages → log.items ≡ remains.items.items
      → IsLaidOut log (record { map = c.map; due = c.due })

-- what is planned of a cleaning is what the new log has
pub record IsPlannedFor (d : Disk) (c : Cleaning) : Type 0 where
  pub slots : spelled (cleaned_items c.ino (d.inode c.ino).log) ≡ c.slots.items
  pub places : (idx : ℕ) → get c.map.map idx ≡ option_map kept (mapping (new_log d c) idx)
  pub due : due_slots (placed (new_log d c)) ≡ c.due.items

-- it is planned on pages that were free, and nothing else differs
pub record Plans {D F : Type 0} (state : D → State) (v v' : Volume D F) (ino : ℕ) (c : Cleaning) :
    Type 0 where
  pub device : v'.device ≡ v.device
  pub parts : v'.parts ≡ record v.parts { free = v'.parts.free }
  pub takes : TakesFirst v.parts.free v'.parts.free c.pages.items
  pub ino_is : c.ino ≡ ino
  pub as_many : length c.pages.items ≡ pages_for (length c.slots.items)
  pub few : length c.pages.items ≤ 65536
  pub none_written : c.written ≡ 0
  pub planned : (d : Disk) → IsVolume d v.parts (state v.device) → IsPlannedFor d c

-- the queue may have more room, and nothing else differs
pub record MakesQueueRoom (b b' : Parts) : Type 0 where
  pub parts : b' ≡ record b { queue = b'.queue }
  pub queue : b'.queue.items ≡ b.queue.items
  pub room : b.queue.room ≤ b'.queue.room

-- the units that a cleaning of so many pages is owed
abbrev pub units_for : ℕ → ℕ
units_for pages = cost.LOG_PAGE_UNITS * pages + cost.REPLACE_UNITS

-- there is room for the cleaning, beside what is owed
pub record HasRoomFor (c : Cleaning) (b : Parts) (s : State) : Type 0 where
  pub units : b.owed.units + units_for (length c.pages.items) ≤ s.spare
  pub few_units : b.owed.units + units_for (length c.pages.items) < 2 ^ 64
  pub queue : b.owed.queue + length c.due.items ≤ b.queue.room
  pub few_due : b.owed.queue + length c.due.items < 2 ^ 64

-- reclaim holds this inode; the others' holders stay
pub record IsHeldFor (held ino : ℕ) (n n' : InodeState) : Type 0 where
  pub node : n' ≡ record n { holder = n'.holder }
  pub mine : ino ≡ held → n'.holder ≡ Some 16
  pub kept : (ino ≡ held → ⊥) → n'.holder ≡ n.holder

-- the cleaning is begun and holds its inode, it is owed what it needs, and this call is counted
pub record Notes (c : Cleaning) (b b' : Parts) : Type 0 where
  pub parts : b' ≡ record b {
    inodes = b'.inodes;
    owed = record b.owed {
      units = b.owed.units + units_for (length c.pages.items);
      queue = b.owed.queue + length c.due.items;
    };
    made = b'.made;
    reclaiming = record b.reclaiming { cleaning = Some c };
  }
  pub inodes : OfInodes (IsHeldFor c.ino) b.inodes.items b'.inodes.items
  pub counts : Counts b b'
