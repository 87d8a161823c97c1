-- Words have one log of an inode, or one fault.
use Rattle.std.specs.Prelude.{◌≡◌, ℕ, List}
use Rattle.pm_device.specs.Reading.{Reads}
use Rattle.pm_layout.specs.declared.Geometry.{Geometry}
use Rattle.dn_model.specs.Log.{Log, LogSays}
use Rattle.dn_model.specs.LogFault.{LogFault}
use Rattle.dn_model.specs.Valid.{IsLog}

-- a log without a fault reads in these words
pub record ReadsAs (g : Geometry) (c : List ℕ) (ino : ℕ) (log : Log) : Type 0 where
  pub reads : Reads (LogSays ino log) c
  pub valid : IsLog g ino log

-- one log at most
abbrev pub HasOneLog : Type 0
HasOneLog = (g : Geometry) (c : List ℕ) (ino : ℕ) (x y : Log) → ReadsAs g c ino x
    → ReadsAs g c ino y → x ≡ y

-- one fault at most
abbrev pub HasOneFault : Type 0
HasOneFault = (g : Geometry) (c : List ℕ) (ino p q : ℕ) → LogFault g c ino p → LogFault g c ino q
    → p ≡ q

-- not both
abbrev pub HasLogOrFault : Type 0
HasLogOrFault = (g : Geometry) (c : List ℕ) (ino place : ℕ) (log : Log) → ReadsAs g c ino log
    → LogFault g c ino place → ⊥
