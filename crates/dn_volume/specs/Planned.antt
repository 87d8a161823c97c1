-- What a write or a cut in flight was planned to do, as the disk has it.
use Rattle.std.specs.Prelude.{
  ◌≡◌,
  ℕ,
  zero,
  suc,
  ◌+◌,
  ◌-◌,
  ◌/◌,
  ◌≤◌,
  max,
  if◌then◌else◌,
  nat_lt,
  List,
  [],
  ◌∷◌,
  ◌++◌,
  length,
  slice_index,
  Option,
  Some,
  None,
}
use Rattle.log_entry.specs.Name.{IsLegal}
use Rattle.log_entry.specs.Spelling.{pages_of}
use Rattle.log_entry.specs.declared.item.LogItem.{LogItem}
use Rattle.log_entry.specs.declared.item.LogItem.TheVariants.{Size as SizeItem}
use Rattle.dn_model.specs.Maps.{Mapping, size_of}
use Rattle.dn_model.specs.Table.{Row, row_of}
use Rattle.dn_model.specs.Disk.{Disk, maps, rows}
use Rattle.dn_model.specs.Files.{named}
use Rattle.dn_model.specs.History.{touched, refilled}
use Rattle.dn_model.specs.declared.op.Op.{Op}
use Rattle.dn_model.specs.declared.op.Op.TheVariants.{
  Create,
  Write,
  Read,
  Cut,
  Remove,
  Rename,
  Size,
  List as ListAll,
}
use Rattle.law_write.specs.Runs.{Run, run_items}
use Rattle.file_content.specs.Content.{merged_byte}
use Rattle.dn_volume.specs.declared.flight.Flight.{Flight}
use Rattle.dn_volume.specs.declared.flight.DataChange.{DataChange}

-- the slots of the rows of the pages of n places from this one on, in order
abbrev pub slot_of_row : Option Row → List ℕ
slot_of_row None = []
slot_of_row (Some row) = row.slot ∷ []

abbrev pub slot_of : Disk → Option Mapping → List ℕ
slot_of d None = []
slot_of d (Some m) = slot_of_row (row_of (rows d) m.block)

unfoldable pub row_slots : Disk → (ino from n : ℕ) → List ℕ
row_slots d ino from zero = []
row_slots d ino from (suc n) = slot_of d (maps d ino from) ++ row_slots d ino (from + 1) n

-- the items that a write or a cut adds to its file's log
abbrev pub data_items : Op → List Run → ℕ → List LogItem
data_items (Create name) runs size = []
data_items (Write name at text) runs size = run_items runs size
data_items (Read name at count) runs size = []
data_items (Cut name to) runs size = run_items runs size ++ SizeItem size ∷ []
data_items (Remove name) runs size = []
data_items (Rename from to) runs size = []
data_items (Size name) runs size = []
data_items ListAll runs size = []

-- byte j of a file of these bytes after it
abbrev pub new_byte : Op → List ℕ → ℕ → ℕ
new_byte (Create name) old j = 0
new_byte (Write name at text) old j = merged_byte old at text j
new_byte (Read name at count) old j = 0
new_byte (Cut name to) old j = if nat_lt j to then slice_index old j else 0
new_byte (Remove name) old j = 0
new_byte (Rename from to) old j = 0
new_byte (Size name) old j = 0
new_byte ListAll old j = 0

-- a write of a text to the file that the name leads to
pub record PlansWrite (d : Disk) (f : Flight) (c : DataChange) (name : List ℕ) (at : ℕ)
    (text : List ℕ) : Type 0 where
  pub held : f.held.items ≡ f.ino ∷ []
  pub legal : IsLegal name
  pub leads : named d name ≡ Some f.ino
  pub some : 1 ≤ length text
  pub short : length text ≤ 65536
  pub fits : at + length text ≤ 16777216
  pub first : c.first ≡ at / 4096
  pub places : length c.blocks.items ≡ touched at (length text)
  pub size_is : c.size ≡ max (size_of (d.inode f.ino).log) (at + length text)
  pub rows : f.rows.items ≡ row_slots d f.ino c.first (length c.blocks.items)

-- where the places that a cut takes away begin
abbrev pub gone_from : ℕ → List ℕ → ℕ
gone_from size [] = pages_of size
gone_from size (block ∷ blocks) = size / 4096

-- a cut of it
pub record PlansCut (d : Disk) (f : Flight) (c : DataChange) (name : List ℕ) (to : ℕ) : Type 0 where
  pub held : f.held.items ≡ f.ino ∷ []
  pub legal : IsLegal name
  pub leads : named d name ≡ Some f.ino
  pub fits : to ≤ 16777216
  pub first : c.first ≡ to / 4096
  pub places : length c.blocks.items ≡ refilled d name to
  pub size_is : c.size ≡ to
  pub rows : f.rows.items ≡ row_slots d f.ino (gone_from to c.blocks.items)
      (4096 - gone_from to c.blocks.items)

abbrev pub PlansData : Disk → Flight → DataChange → Op → Type 0
PlansData d f c (Create name) = ⊥
PlansData d f c (Write name at text) = PlansWrite d f c name at text
PlansData d f c (Read name at count) = ⊥
PlansData d f c (Cut name to) = PlansCut d f c name to
PlansData d f c (Remove name) = ⊥
PlansData d f c (Rename from to) = ⊥
PlansData d f c (Size name) = ⊥
PlansData d f c ListAll = ⊥
