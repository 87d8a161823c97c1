-- How far an operation in flight is. Its fact speaks of the disk where it holds inodes, and of the
-- device where it has
-- taken pages: what was stored there is settled by its actor's next fence, if it isn't yet.
use Rattle.std.specs.Prelude.{
  ◌≡◌,
  ℕ,
  ◌+◌,
  ◌-◌,
  ◌*◌,
  ◌/◌,
  ◌<◌,
  ◌≤◌,
  true,
  if◌then◌else◌,
  [],
  ◌++◌,
  length,
  slice_index,
  Contains,
}
use Rattle.pm_device.specs.State.{State}
use Rattle.pm_device.specs.Reading.{IsReady}
use Rattle.log_entry.specs.Spelling.{spelled}
use Rattle.dn_model.specs.Log.{count, tail_at}
use Rattle.dn_model.specs.Disk.{Disk, Live, Dying}
use Rattle.dn_model.specs.Files.{bytes}
use Rattle.dn_model.specs.History.{needed}
use Rattle.law_write.specs.Runs.{IsChained, places_in, block_at}
use Rattle.law_names.specs.NameChange.{
  NameChange as DiskChange,
  FreshNames,
  root_after,
  Turn,
  Stays,
  Comes,
  Goes,
}
use Rattle.file_content.specs.Content.{IsFilledBy}
use Rattle.file_content.specs.Pages.{AreApart}
use Rattle.file_content.specs.Runs.{all_seen}
use Rattle.dn_volume.specs.declared.flight.Flight.{Flight}
use Rattle.dn_volume.specs.declared.flight.Change.{Change}
use Rattle.dn_volume.specs.declared.flight.Change.TheVariants.{Data, Names}
use Rattle.dn_volume.specs.declared.flight.DataChange.{DataChange}
use Rattle.dn_volume.specs.declared.flight.NameChange.{NameChange}
use Rattle.dn_volume.specs.declared.flight.Turn.{Turn as KeptTurn}
use Rattle.dn_volume.specs.declared.flight.Turn.TheVariants as kept
use Rattle.dn_volume.specs.declared.volume.Parts.{Parts}
use Rattle.dn_volume.specs.Parties.{Flies, taken_by}
use Rattle.dn_volume.specs.Planned.{PlansData, data_items, new_byte}
use Rattle.dn_volume.specs.PlannedNames.{PlansNames, name_put}

abbrev pub as_turn : KeptTurn → Turn
as_turn kept.Stays = Stays
as_turn kept.Comes = Comes
as_turn kept.Goes = Goes

-- the items' slots go behind the log, which grows by just the pages that they need
pub record GrowsBy (d : Disk) (f : Flight) : Type 0 where
  pub in_table : f.ino < d.geometry.inodes
  pub live : (d.inode f.ino).use_of ≡ Live
  pub holds : Contains f.held.items f.ino
  pub room : length ((d.inode f.ino).log.pages ++ f.fresh.items) ≡
      (count (d.inode f.ino).log + length f.slots.items + 62) / 63
  pub apart : AreApart (taken_by f)
  pub takes : length (taken_by f) ≡ needed d f.op
  pub undying : (i cut : ℕ) → Contains f.held.items i → (d.inode i).use_of ≡ Dying cut → ⊥

-- a write or a cut
pub record IsDataFlight (d : Disk) (who : ℕ) (f : Flight) (c : DataChange) (s : State) : Type 0
  where
    pub file : 1 ≤ f.ino
    pub grows : GrowsBy d f
    pub plans : PlansData d f c f.op
    pub chained : IsChained c.first (all_seen c.runs.items)
    pub covers : places_in (all_seen c.runs.items) ≡ length c.blocks.items
    pub blocks : (i : ℕ) → i < length c.blocks.items → block_at (all_seen c.runs.items)
        i ≡ slice_index c.blocks.items i
    pub few : length c.blocks.items ≤ 17
    pub slots : spelled (data_items f.op (all_seen c.runs.items) c.size) ≡ f.slots.items
    pub filled_few : c.filled ≤ length c.blocks.items
    pub filled : (i : ℕ) → i < c.filled → IsFilledBy who s (slice_index c.blocks.items i)
        (λ k. new_byte f.op (bytes d f.ino) (4096 * (c.first + i) + k))
    pub raised_few : f.raised ≤ length f.rows.items
    pub in_turn : 1 ≤ f.raised → c.filled ≡ length c.blocks.items

-- a creation, a removal or a renaming
pub record IsNameFlight (d : Disk) (who : ℕ) (f : Flight) (c : NameChange) (s : State) : Type 0
  where
    pub root : f.ino ≡ 0
    pub grows : GrowsBy d f
    pub change : DiskChange
    pub plans : PlansNames d f change f.op
    pub node_is : change.ino ≡ c.node
    pub turn_is : change.turn ≡ as_turn c.turn
    pub file : 1 ≤ c.node
    pub node_in_table : c.node < d.geometry.inodes
    pub holds_node : Contains f.held.items c.node
    pub slots : spelled change.more ≡ f.slots.items
    pub no_rows : f.rows.items ≡ []
    pub put_is : c.put ≡ name_put f.op
    pub ready : c.prepared ≡ true → IsReady who (FreshNames d change) s
    pub tail : c.prepared ≡ true → c.tail ≡ tail_at (root_after d change).pages
        (count (root_after d change))

abbrev pub IsFlightOf : Disk → ℕ → Flight → State → Change → Type 0
IsFlightOf d who f s (Data c) = IsDataFlight d who f c s
IsFlightOf d who f s (Names c) = IsNameFlight d who f c s

abbrev pub IsFlight : Disk → ℕ → Flight → State → Type 0
IsFlight d who f s = IsFlightOf d who f s f.change

-- how many events are left
abbrev pub left_by : Flight → Change → ℕ
left_by f (Data c) = (length c.blocks.items - c.filled) + (length f.rows.items - f.raised) + 1
left_by f (Names c) = if c.prepared then 1 else 2

abbrev pub left_of : Flight → ℕ
left_of f = left_by f f.change

-- so it is with each that there is
pub record AreFlights (d : Disk) (b : Parts) (s : State) : Type 0 where
  pub clients : length b.flights.items ≡ 14
  pub each : (who : ℕ) (f : Flight) → Flies b who f → IsFlight d who f s
