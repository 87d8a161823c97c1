-- What is read of a log in words that may be any.
use Rattle.std.specs.Prelude.{◌⊎◌, ℕ, List}
use Rattle.pm_device.specs.Reading.{Reads}
use Rattle.pm_layout.specs.declared.Geometry.{Geometry}
use Rattle.log_entry.specs.Fronts.{BeginsItem, BeginsWith, BeginsNothing}
use Rattle.log_entry.specs.declared.item.LogItem.{LogItem}
use Rattle.dn_model.specs.Log.{Log, LogSays}
use Rattle.dn_model.specs.LogFault.{LogFault}
use Rattle.dn_model.specs.Valid.{IsLog}

-- slots begin with an item's slots, or an item's slots begin with them and are more, or neither
abbrev pub FrontsAreDecided : Type 0
FrontsAreDecided = (slots : List (List ℕ)) → ((item : LogItem) × BeginsWith item slots) ⊎ BeginsItem
    slots ⊎ BeginsNothing slots

-- the log of an inode has its first fault, or a log without a fault reads in the words
abbrev pub LogsAreReadOrFaulty : Type 0
LogsAreReadOrFaulty = (g : Geometry) (c : List ℕ) (ino : ℕ) → ((place : ℕ) × LogFault g c ino place)
    ⊎ ((log : Log) × Reads (LogSays ino log) c × IsLog g ino log)
