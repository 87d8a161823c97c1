-- A disk on which one inode has another log, and pages other words.
use Rattle.std.specs.Prelude.{ℕ, if◌then◌else◌, ◌==◌, List, ◌++◌}
use Rattle.log_entry.specs.declared.item.LogItem.{LogItem}
use Rattle.dn_model.specs.Log.{Log}
use Rattle.dn_model.specs.Disk.{Disk}

unfoldable pub with_log : Disk → ℕ → Log → (ℕ → ℕ → ℕ) → Disk
with_log d ino log word = record {
  geometry = d.geometry;
  inode = λ i. if i == ino then record { use_of = (d.inode ino).use_of; log = log } else d.inode i;
  chain = d.chain;
  pointer = d.pointer;
  word = word;
}

-- a log with more items, and with fresh pages behind its own
abbrev pub grown_log : Log → List ℕ → List LogItem → Log
grown_log log fresh more = record { pages = log.pages ++ fresh; items = log.items ++ more }
