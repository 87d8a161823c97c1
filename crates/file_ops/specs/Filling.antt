-- An operation in flight fills the next of its pages.
use Rattle.std.specs.Prelude.{◌≡◌, ℕ, ◌+◌, ◌*◌, ◌<◌, ◌≤◌, length, slice_index, Option, Some}
use Rattle.std.specs.Ordering.{nat_cmp}
use Rattle.std.specs.FinMap.{FinMap}
use Rattle.pm_device.specs.State.{State, Agree}
use Rattle.pm_device.specs.Settled.{StoresOnly, KeepsFlushed, Anyone, FlushesAll}
use Rattle.pm_device.specs.Pages.{IsInPage}
use Rattle.pm_device.specs.Reading.{Stands}
use Rattle.pm_layout.specs.declared.Geometry.{Geometry}
use Rattle.file_index.specs.declared.page_map.Mapping.{Mapping}
use Rattle.dn_model.specs.Disk.{Disk, DiskSays}
use Rattle.dn_model.specs.Files.{bytes}
use Rattle.dn_model.specs.Own.{Print}
use Rattle.dn_model.specs.Valid.{IsValid}
use Rattle.dn_model.specs.declared.op.Op.{Op}
use Rattle.dn_model.specs.declared.op.Op.TheVariants as op
use Rattle.file_content.specs.Content.{IsFileOf, IsFilledBy}
use Rattle.dn_volume.specs.declared.units.TheConstants.{FILL_UNITS}
use Rattle.dn_volume.specs.declared.flight.Flight.{Flight}
use Rattle.dn_volume.specs.declared.flight.DataChange.{DataChange}
use Rattle.dn_volume.specs.declared.flight.Change.TheVariants.{Data}
use Rattle.dn_volume.specs.declared.volume.Parts.{Parts}
use Rattle.dn_volume.specs.declared.volume.Volume.{Volume}
use Rattle.dn_volume.specs.Parties.{Flies}
use Rattle.dn_volume.specs.Planned.{new_byte}
use Rattle.dn_volume.specs.Steps.{StepsOn}
use Rattle.dn_volume.specs.Agrees.{IsVolume}
use Rattle.dn_volume.specs.Events.{Counts, MovesOn}

-- a page is left to be filled
pub record IsToFill (b : Parts) (who : ℕ) : Type 0 where
  pub flight : Flight
  pub data_change : DataChange
  pub flies : Flies b who flight
  pub is_data : flight.change ≡ Data data_change
  pub some : data_change.filled < length data_change.blocks.items

-- the page that is filled next
abbrev pub next_block : DataChange → ℕ
next_block c = slice_index c.blocks.items c.filled

-- the operation with one page more filled
abbrev pub one_filled : Flight → DataChange → Flight
one_filled f c = record f { change = Data (record c { filled = c.filled + 1 }) }

-- That page was stored and flushed: it has the bytes that its place has after the operation.
pub record StoresFill (d : Disk) (who : ℕ) (f : Flight) (c : DataChange) (s t : State) : Type 0
  where
    pub filled : IsFilledBy who t (next_block c)
        (λ k. new_byte f.op (bytes d f.ino) (4096 * (c.first + c.filled) + k))
    pub only : StoresOnly (IsInPage (next_block c)) s t
    pub keeps : KeepsFlushed Anyone (IsInPage (next_block c)) s t
    pub flushes : FlushesAll who s t
    pub spare : s.spare ≤ t.spare + FILL_UNITS
    pub faults : s.faults ≤ t.faults

-- one page more is filled, and the room for that is owed no more
pub record Fills (who : ℕ) (f : Flight) (c : DataChange) (b b' : Parts) : Type 0 where
  pub steps : StepsOn who f (one_filled f c) b b'
  pub trace : b'.trace ≡ b.trace
  pub history : b'.history ≡ b.history

-- so the operation goes on
abbrev pub FillsMove : (D F : Type 0) → (D → State) → Type 0
FillsMove D F state = (print : Print) (v v' : Volume D F) (d : Disk) (who : ℕ) (f : Flight)
    (c : DataChange) → IsVolume d v.parts (state v.device)
    → Agree (state v'.device).now (state v'.device).past → Flies v.parts who f → f.change ≡ Data c
    → c.filled < length c.blocks.items → StoresFill d who f c (state v.device) (state v'.device)
    → Fills who f c v.parts v'.parts → Counts v.parts v'.parts → MovesOn state print who v v' d

-- a write or a cut of a file of this size fills pages; a cut within the file
abbrev pub FillsBytes : Op → ℕ → Type 0
FillsBytes (op.Create name) size = ⊥
FillsBytes (op.Write name at text) size = Unit {0}
FillsBytes (op.Read name at count) size = ⊥
FillsBytes (op.Cut name to) size = to ≤ size
FillsBytes (op.Remove name) size = ⊥
FillsBytes (op.Rename from to) size = ⊥
FillsBytes (op.Size name) size = ⊥
FillsBytes op.List size = ⊥

-- the page has the bytes that this place of a file has after the operation, and was flushed
abbrev pub FillsByOp : Geometry → ℕ → FinMap nat_cmp Mapping → ℕ → Op → (place block : ℕ) → State
    → State → Type 0
FillsByOp g who map size done place block s t = (d : Disk) (ino : ℕ) → IsFileOf d ino size map
    → IsValid d → d.geometry ≡ g → Stands (DiskSays d) s
    → IsFilledBy who t block (λ k. new_byte done (bytes d ino) (4096 * place + k))

-- so the next page of the operation is stored
abbrev pub StoresNext : ℕ → Parts → State → State → Type 0
StoresNext who b s t = (d : Disk) (f : Flight) (c : DataChange) → IsVolume d b s → Flies b who f
    → f.change ≡ Data c → StoresFill d who f c s t

-- a page of it is left to be filled
pub record IsOneLeft (flight : Option Flight) (f : Flight) (c : DataChange) : Type 0 where
  pub is : flight ≡ Some f
  pub is_data : f.change ≡ Data c
  pub some : c.filled < length c.blocks.items

abbrev pub IsOneToFill : Option Flight → Type 0
IsOneToFill flight = (f : Flight) × (c : DataChange) × IsOneLeft flight f c

-- one page more is filled, and one call more got on
abbrev pub NotesFill : ℕ → Parts → Parts → Type 0
NotesFill who b b' = (f : Flight) (c : DataChange) → Flies b who f → f.change ≡ Data c
    → Fills who f c b b' × Counts b b'

-- a write or a cut that has filled no more than its pages and raised no more than its rows
pub record HasLeft (b : Parts) (who : ℕ) : Type 0 where
  pub flight : Flight
  pub data_change : DataChange
  pub flies : Flies b who flight
  pub is_data : flight.change ≡ Data data_change
  pub filled : data_change.filled ≤ length data_change.blocks.items
  pub raised : flight.raised ≤ length flight.rows.items
