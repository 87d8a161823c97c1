-- The index of a file, from the items of its log.
use Rattle.std.specs.Prelude.{
  ◌≡◌,
  ℕ,
  ◌+◌,
  ◌-◌,
  ◌≤◌,
  ◌&&◌,
  nat_le,
  nat_lt,
  if◌then◌else◌,
  [],
  ◌∷◌,
  Option,
  Some,
}
use Rattle.std.specs.Option.{option_map}
use Rattle.std.specs.Ordering.{nat_cmp}
use Rattle.std.specs.FinMap.{get}
use Rattle.log_entry.specs.Spelling.{IsSpelled}
use Rattle.log_entry.specs.declared.item.LogItem.{LogItem}
use Rattle.log_entry.specs.declared.item.LogItem.TheVariants.{Write, Size, Add, Forget}
use Rattle.file_index.specs.declared.page_map.Mapping.{Mapping}
use Rattle.file_index.specs.Index.{Index}
use Rattle.dn_model.specs.Log.{Log, Placed}
use Rattle.dn_model.specs.Maps.{Mapping as DiskMapping, mapping, remapped, size_of, size_after}
use Rattle.log_walk.specs.declared.items.Placed.{Placed as PlacedItem}
use Rattle.file_content.specs.Content.{kept}
use Rattle.file_scan.specs.declared.index.FileIndex.{FileIndex}

-- the pages that a Write maps have numbers of pages of some image
abbrev pub HasSmallBlocks : LogItem → Type 0
HasSmallBlocks (Write first count block size flag mask) = block + count ≤ 65536
HasSmallBlocks (Size size) = Unit {0}
HasSmallBlocks (Add ino name) = Unit {0}
HasSmallBlocks (Forget name) = Unit {0}

abbrev pub MayBeIndexed : PlacedItem → Type 0
MayBeIndexed p = IsSpelled p.item × HasSmallBlocks p.item

-- the mapping of a place, once so many from `first` on are mapped, one after another
abbrev pub set_mapping : (slot first count block idx : ℕ) → Option Mapping → Option Mapping
set_mapping slot first count block idx m =
    if nat_le first idx && nat_lt idx (first + count) then Some
    (record { block = block + (idx - first); slot = slot; bit = idx - first }) else m

abbrev pub SetsPlaces : (slot first count block : ℕ) → Index nat_cmp Mapping → Index nat_cmp Mapping
    → Type 0
SetsPlaces slot first count block old new = (idx : ℕ) → get new.map idx ≡ set_mapping slot first
    count block idx (get old.map idx)

-- the index goes along with the item
pub record Remaps (p : Placed) (old new : FileIndex) : Type 0 where
  pub size : new.size ≡ size_after old.size (p.item ∷ [])
  pub places : (idx : ℕ) (m : Option DiskMapping) → get old.map.map idx ≡ option_map kept m
      → get new.map.map idx ≡ option_map kept (remapped idx m p)

-- the size and the mappings of the log's file
pub record IsIndexOf (log : Log) (index : FileIndex) : Type 0 where
  pub size_is : size_of log ≡ index.size
  pub places : (idx : ℕ) → get index.map.map idx ≡ option_map kept (mapping log idx)
