-- Laws of the faults of an image.
use Rattle.std.specs.Prelude.{◌≡◌, ℕ, ◌<◌, List}
use Rattle.pm_device.specs.Reading.{Reads}
use Rattle.pm_layout.specs.declared.Geometry.{Geometry}
use Rattle.pm_layout.specs.Geometry.{directs}
use Rattle.dn_model.specs.Log.{Log, LogSays}
use Rattle.dn_model.specs.LogFault.{LogFault}
use Rattle.dn_model.specs.Table.{Row, ChainSays, rows_from}
use Rattle.dn_model.specs.Valid.{IsLog, AreApart}
use Rattle.dn_model.specs.Image.{HasNoFault}
use Rattle.dn_model.specs.Faults.{TableFault, FaultOf}
use Rattle.dn_model.specs.declared.fault.ImageFault.{ImageFault}
use Rattle.law_unique.specs.Images.{AreRows}

-- a log has its first fault at one place, and none where it may be read
abbrev pub HasOneLogFault : Type 0
HasOneLogFault = (g : Geometry) (c : List ℕ) (ino p q : ℕ) → LogFault g c ino p → LogFault g c ino q
    → p ≡ q

abbrev pub ReadLogsHaveNoFault : Type 0
ReadLogsHaveNoFault = (g : Geometry) (c : List ℕ) (ino : ℕ) (log : Log) → IsLog g ino log
    → Reads (LogSays ino log) c → (p : ℕ) → LogFault g c ino p → ⊥

-- and so has the table
abbrev pub HasOneTableFault : Type 0
HasOneTableFault = (g : Geometry) (r : List ℕ) (s t : ℕ) → TableFault g r s → TableFault g r t
    → s ≡ t

abbrev pub ReadTablesHaveNoFault : Type 0
ReadTablesHaveNoFault = (g : Geometry) (r : List ℕ) (chain : ℕ → List Row)
    → ((q : ℕ) → q < directs g → AreRows g q (chain q))
    → ((q : ℕ) → q < directs g → Reads (ChainSays g q (chain q)) r)
    → AreApart (rows_from chain 0 (directs g)) → (s : ℕ) → TableFault g r s → ⊥

-- an image has one first fault at most
abbrev pub HasOneFault : Type 0
HasOneFault = (c : List ℕ) (x y : ImageFault) → FaultOf c x → FaultOf c y → x ≡ y

-- and none where it stands for a state
abbrev pub StandingHasNoFault : Type 0
StandingHasNoFault = (c : List ℕ) (x : ImageFault) → FaultOf c x → HasNoFault c → ⊥
