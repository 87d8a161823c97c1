-- The names of a directory, from the items of its log.
use Rattle.std.specs.Prelude.{◌≡◌, ℕ, List, [], ◌∷◌, map, drop, None}
use Rattle.std.specs.Ordering.{nat_cmp}
use Rattle.std.specs.Cmp.Lexicographic.{slice_cmp}
use Rattle.std.specs.FinMap.{FinMap, get}
use Rattle.log_entry.specs.declared.item.LogItem.{LogItem}
use Rattle.dn_model.specs.Log.{Log}
use Rattle.dn_model.specs.Files.{named_after}
use Rattle.log_walk.specs.Items.{item_of}
use Rattle.log_walk.specs.declared.items.Placed.{Placed as PlacedItem}

-- a map from names to numbers of inodes
abbrev pub NamesMap : Type 0
NamesMap = FinMap (slice_cmp nat_cmp) ℕ

-- the map goes along with the item
abbrev pub Renames : LogItem → NamesMap → NamesMap → Type 0
Renames item old new = (name : List ℕ) → get new name ≡ named_after name (get old name) (item ∷ [])

-- the rest of the items makes of the map that of all
abbrev pub IsNamedTo : List PlacedItem → ℕ → NamesMap → Type 0
IsNamedTo items i names = (name : List ℕ) → named_after name (get names name)
    (map item_of (drop i items)) ≡ named_after name None (map item_of items)

-- the names of the log
abbrev pub IsNamesOf : Log → NamesMap → Type 0
IsNamesOf log names = (name : List ℕ) → get names name ≡ named_after name None log.items
