-- How far the items of a log are in an index.
use Rattle.std.specs.Prelude.{◌≡◌, ℕ, ◌+◌, ◌≤◌, List, map, drop, Option, None}
use Rattle.std.specs.Option.{option_map}
use Rattle.std.specs.Ordering.{nat_cmp}
use Rattle.std.specs.FinMap.{get}
use Rattle.file_index.specs.declared.page_map.Mapping.{Mapping}
use Rattle.file_index.specs.Index.{Index}
use Rattle.dn_model.specs.Maps.{Mapping as DiskMapping, mapped_after, size_after}
use Rattle.log_walk.specs.Items.{seen, item_of}
use Rattle.log_walk.specs.declared.items.Placed.{Placed as PlacedItem}
use Rattle.file_content.specs.Content.{kept}
use Rattle.file_scan.specs.Index.{SetsPlaces}
use Rattle.file_scan.specs.declared.index.FileIndex.{FileIndex}

-- k places are mapped, and there is room for the others of `count`
pub record SetsTo (slot first count block k : ℕ) (old new : Index nat_cmp Mapping) : Type 0 where
  pub so_far : SetsPlaces slot first k block old new
  pub room : count ≤ new.room + k

-- a mapping that the rest of the items makes that of all
pub record IsMappedTo (items : List PlacedItem) (i idx : ℕ) (index : FileIndex) : Type 0 where
  pub by : Option DiskMapping
  pub is : get index.map.map idx ≡ option_map kept by
  pub rest : mapped_after idx by (map seen (drop i items)) ≡ mapped_after idx None (map seen items)

-- i items are in the index
pub record IsIndexedTo (items : List PlacedItem) (i : ℕ) (index : FileIndex) : Type 0 where
  pub size : size_after index.size (map item_of (drop i items)) ≡ size_after 0 (map item_of items)
  pub places : (idx : ℕ) → IsMappedTo items i idx index
