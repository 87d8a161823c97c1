-- The logs of other inodes, while one grows.
use Rattle.std.specs.Prelude.{◌≡◌, ◌≢◌, ℕ, ◌<◌, List, length, slice_index}
use Rattle.pm_device.specs.State.{State}
use Rattle.pm_device.specs.Reading.{Stands}
use Rattle.pm_layout.specs.declared.Geometry.{Geometry}
use Rattle.dn_model.specs.Log.{Log, LogSays, IsPaged}
use Rattle.inode_log.specs.Prepare.{IsToPrepare}
use Rattle.inode_log.specs.Reflags.{Stood}

-- the log of another inode stands, and has none of these pages
pub record IsOtherLog (g : Geometry) (ino : ℕ) (pages : List ℕ) (other : ℕ) (log : Log) (s : State)
    : Type 0 where
  pub different : other ≢ ino
  pub in_table : other < g.inodes
  pub paged : IsPaged g log
  pub apart : (j k : ℕ) → j < length log.pages → k < length pages
      → slice_index log.pages j ≢ slice_index pages k
  pub stands : Stands (LogSays other log) s

-- each such log stood in each image left in the call, and stands
abbrev pub KeepsOtherLogs : Geometry → ℕ → List ℕ → State → State → Type 0
KeepsOtherLogs g ino pages s t = (other : ℕ) (log : Log) → IsOtherLog g ino pages other log s
    → Stood other log s t

-- so do the logs that have no page of the one that is prepared
abbrev pub PreparesAlone : Geometry → ℕ → List (List ℕ) → List ℕ → State → State → Type 0
PreparesAlone g ino slots fresh s t = (old new : Log) → IsToPrepare g ino slots fresh old new s
    → KeepsOtherLogs g ino new.pages s t
