-- What is planned of a cleaning: what the log says still, and where the new log has it.
use Rattle.std.specs.Prelude.{◌≡◌, ℕ}
use Rattle.log_entry.specs.Spelling.{spelled, IsSpelled}
use Rattle.file_scan.specs.Index.{HasSmallBlocks}
use Rattle.log_entry.specs.declared.item.LogItem.{LogItem}
use Rattle.dn_model.specs.Log.{Log}
use Rattle.dn_model.specs.Disk.{Disk}
use Rattle.dn_model.specs.Maps.{mapping}
use Rattle.std.specs.Option.{option_map}
use Rattle.std.specs.FinMap.{get}
use Rattle.file_content.specs.Content.{kept}
use Rattle.dn_model.specs.Log.{placed}
use Rattle.law_clean.specs.Cleaned.{cleaned_items}
use Rattle.dn_volume.specs.Cleans.{due_slots}
use Rattle.log_clean.specs.declared.plan.Remains.{Remains}
use Rattle.log_clean.specs.declared.plan.Layout.{Layout}

-- what a log says still, and the slots of that
pub record AreRemains (d : Disk) (ino : ℕ) (remains : Remains) : Type 0 where
  pub items : remains.items.items ≡ cleaned_items ino (d.inode ino).log
  pub slots : spelled remains.items.items ≡ remains.slots.items

-- the items are spelled, and map pages of some image
abbrev pub MayBeLaid : LogItem → Type 0
MayBeLaid item = IsSpelled item × HasSmallBlocks item

-- the places of the file and the slots that are due, by a log of these pages and items
pub record IsLaidOut (log : Log) (layout : Layout) : Type 0 where
  pub places : (idx : ℕ) → get layout.map.map idx ≡ option_map kept (mapping log idx)
  pub due : due_slots (placed log) ≡ layout.due.items
