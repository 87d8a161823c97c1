-- What a write or a cut asks of the disk.
use Rattle.std.specs.Prelude.{◌≡◌, ℕ, ◌+◌, ◌<◌, ◌≤◌, ◌∷◌, [], length, Option, Some, None}
use Rattle.dn_model.specs.Disk.{Disk, Live}
use Rattle.dn_model.specs.Files.{files}
use Rattle.dn_model.specs.Apply.{IsGranted}
use Rattle.dn_model.specs.History.{needed, reserve}
use Rattle.dn_model.specs.declared.op.Op.{Op}
use Rattle.dn_model.specs.declared.op.Reply.TheVariants.{Refused}
use Rattle.dn_model.specs.declared.op.Refusal.TheVariants.{NoSpace as NoSpaceFor}
use Rattle.dn_volume.specs.declared.volume.Parts.{Parts}
use Rattle.dn_volume.specs.Planned.{row_slots}
use Rattle.dn_volume.specs.Begins.{
  IsAtOnce,
  wants,
  LacksInode,
  lost_rows,
  IsAnswerOf,
  IsBusy,
  WaitsForRelease,
  HasAll,
}
use Rattle.data_begins.specs.declared.asks.DataAsk.{DataAsk}
use Rattle.data_begins.specs.declared.hindrance.Hindrance.{Hindrance}
use Rattle.data_begins.specs.declared.hindrance.Hindrance.TheVariants.{Held, Waits, NoSpace}

-- the inode of a file
pub record IsLiveFile (d : Disk) (ino : ℕ) : Type 0 where
  pub file : 1 ≤ ino
  pub in_table : ino < d.geometry.inodes
  pub live : (d.inode ino).use_of ≡ Live

-- The files grant it, and it lasts; it holds this inode, needs so many pages, and takes these
-- places away from their pages.
pub record IsAsk (d : Disk) (op : Op) (ask : DataAsk) : Type 0 where
  pub granted : IsGranted (files d) op
  pub lasts : IsAtOnce op → ⊥
  pub holds : wants d op ≡ ask.ino ∷ []
  pub file : IsLiveFile d ask.ino
  pub needs : needed d op ≡ ask.needed
  pub few : ask.needed ≤ 18
  pub keeps : reserve op ≡ 4
  pub inode : LacksInode d op → ⊥
  pub loses : lost_rows d op ≡ row_slots d ask.ino ask.lost ask.lost_places
  pub in_file : ask.lost + ask.lost_places ≤ 4096

-- some operation asks so
pub record IsAsked (d : Disk) (ask : DataAsk) : Type 0 where
  pub op : Op
  pub is : IsAsk d op ask

-- what is in the way of the operation: nothing, that its file is held, that it waits for releases,
-- or that it has too few pages while nothing waits
abbrev pub IsInTheWay : Disk → Parts → Op → DataAsk → Option Hindrance → Type 0
IsInTheWay d b op ask None = HasAll d b op
IsInTheWay d b op ask (Some (Held holder)) = IsBusy d b op holder
IsInTheWay d b op ask (Some Waits) = WaitsForRelease d b op b.reclaiming.waiting
IsInTheWay d b op ask (Some NoSpace) =
    IsAnswerOf d b op (Refused (NoSpaceFor ask.needed (length b.free.free)))
