-- What a walk along a log answers.
use Rattle.std.specs.Prelude.{
  ◌≡◌,
  ℕ,
  ◌+◌,
  ◌-◌,
  ◌*◌,
  ◌%◌,
  Bool,
  true,
  false,
  List,
  map,
  Option,
  Some,
  None,
  nat_eq,
  if◌then◌else◌,
}
use Rattle.pm_device.specs.Reading.{Reads}
use Rattle.pm_layout.specs.declared.Geometry.{Geometry}
use Rattle.dn_model.specs.Log.{Log, LogSays, placed}
use Rattle.dn_model.specs.LogFault.{LogFault}
use Rattle.dn_model.specs.Valid.{IsLog}
use Rattle.log_walk.specs.Items.{seen}
use Rattle.log_walk.specs.declared.items.Placed.{Placed as PlacedItem}
use Rattle.log_walk.specs.declared.items.End.{End}
use Rattle.log_walk.specs.declared.items.End.TheVariants.{Filled, Cut, Bad}
use Rattle.log_walk.specs.declared.log.WalkFault.{WalkFault}
use Rattle.log_walk.specs.declared.log.WalkFault.TheVariants.{Bad as BadLog, NoMemory}

-- a log without a fault reads in these words, and these are its items
pub record HasLog (g : Geometry) (c : List ℕ) (ino : ℕ) (items : List PlacedItem) : Type 0 where
  pub log : Log
  pub reads : Reads (LogSays ino log) c
  pub valid : IsLog g ino log
  pub items_are : map seen items ≡ placed log

-- and these are its pages
pub record HasWholeLog (g : Geometry) (c : List ℕ) (ino : ℕ) (pages : List ℕ)
    (items : List PlacedItem) : Type 0 where
  pub log : Log
  pub reads : Reads (LogSays ino log) c
  pub valid : IsLog g ino log
  pub pages_are : pages ≡ log.pages
  pub items_are : map seen items ≡ placed log

abbrev pub IsFaultOf : Geometry → List ℕ → ℕ → WalkFault → Type 0
IsFaultOf g c ino (BadLog place) = LogFault g c ino place
IsFaultOf g c ino NoMemory = Unit {0}

-- how many slots of so many pages are to be read, where the last is the tail's or where none is
abbrev pub slots_before : ℕ → Bool → ℕ → ℕ
slots_before pages true tail = 63 * (pages - 1) + tail % 64
slots_before pages false tail = 63 * pages

-- The place of the fault, by the end of the items, whether the tail's page was met, and the tail's
-- slot: after the
-- slots that the items take, or after all.
abbrev pub fault_place : End → Bool → ℕ → ℕ → ℕ → Option ℕ
fault_place Bad whole slot taken all = Some taken
fault_place Cut true slot taken all = Some taken
fault_place Cut false slot taken all = Some all
fault_place Filled false slot taken all = Some all
fault_place Filled true slot taken all = if nat_eq slot 0 then Some all else None
