-- What an operation that begins has, and what it finds.
use Rattle.std.specs.Prelude.{◌≡◌, ℕ, ◌+◌, ◌<◌, ◌≤◌, length, Some, Contains}
use Rattle.pm_device.specs.State.{State}
use Rattle.page_alloc.specs.Free.{FreePages}
use Rattle.file_write.specs.Take.{TakesFirst}
use Rattle.dn_model.specs.Disk.{Disk}
use Rattle.dn_volume.specs.declared.flight.Flight.{Flight}
use Rattle.dn_volume.specs.declared.flight.Change.{Change}
use Rattle.dn_volume.specs.declared.flight.Change.TheVariants.{Data, Names}
use Rattle.dn_volume.specs.declared.volume.Parts.{Parts}
use Rattle.dn_volume.specs.Parties.{taken_by}
use Rattle.dn_volume.specs.Flights.{IsFlight}
use Rattle.dn_volume.specs.Reserve.{owed_to}
use Rattle.dn_volume.specs.Begins.{MayBegin}
use Rattle.begin_steps.specs.Held.{AreLooseAmong}
use Rattle.begin_steps.specs.Room.{HasRoomFor, HasPlaceRoom}

-- the map of a file that is written or cut has room for its new places
abbrev pub HasPlacesFor : Flight → Change → Parts → Type 0
HasPlacesFor f (Data c) b = HasPlaceRoom f.ino (length c.blocks.items) b
HasPlacesFor f (Names c) b = Unit {0}

-- The operation is planned for this disk; its pages are the least free ones, and two are left where
-- it takes some; the inodes that it holds are held by nobody; and there is room for all that it is
-- owed.
pub record MayStart (d : Disk) (who : ℕ) (f : Flight) (free : FreePages) (b : Parts) (s : State) :
    Type 0 where
  pub begins : MayBegin b who
  pub plans : IsFlight d who f s
  pub unraised : f.raised ≡ 0
  pub takes : TakesFirst b.free free (taken_by f)
  pub left : 0 < length (taken_by f) → 2 ≤ length free.free
  pub inside : (ino : ℕ) → Contains f.held.items ino → ino < length b.inodes.items
  pub loose : AreLooseAmong b.inodes.items f.held.items
  pub few : length b.reclaiming.releases.items + length f.rows.items ≤ 1048576
  pub room : HasRoomFor (owed_to (Some f)) b
  pub units : b.owed.units + (owed_to (Some f)).units ≤ s.spare
  pub places : HasPlacesFor f f.change b
