-- The items that slots begin with.
use Rattle.std.specs.Prelude.{◌≡◌, ◌⊎◌, ℕ, ◌<◌, List, [], ◌++◌, length, map, drop, All}
use Rattle.pm_layout.specs.declared.Geometry.{Geometry}
use Rattle.log_entry.specs.Spelling.{spelling, spelled, IsSpelled}
use Rattle.log_entry.specs.Fronts.{BeginsItem, BeginsWith, BeginsNothing}
use Rattle.log_entry.specs.declared.item.LogItem.{LogItem}
use Rattle.dn_model.specs.Log.{Placed, placed_from}
use Rattle.dn_model.specs.Valid.{MayStand}
use Rattle.log_walk.specs.declared.items.Placed.{Placed as PlacedItem}
use Rattle.log_walk.specs.declared.items.Items.{Items}
use Rattle.log_walk.specs.declared.items.End.{End}
use Rattle.log_walk.specs.declared.items.End.TheVariants.{Filled, Cut, Bad}
use Rattle.log_walk.specs.declared.items.Next.{Next}
use Rattle.log_walk.specs.declared.items.Next.TheVariants.{Item, Cut as NextCut, Bad as NextBad}

-- what is seen of items that are read
abbrev pub item_of : PlacedItem → LogItem
item_of p = p.item

abbrev pub seen : PlacedItem → Placed
seen p = record { slot = p.slot; item = p.item }

-- they spell no item, nor its beginning, or they spell one that may not stand in this log
abbrev pub IsBad : Geometry → ℕ → List (List ℕ) → Type 0
IsBad g ino ss = BeginsNothing ss ⊎ ((item : LogItem) × BeginsWith item ss × (MayStand g ino item
    → ⊥))

abbrev pub IsNext : Geometry → ℕ → List (List ℕ) → Next → Type 0
IsNext g ino ss (Item item slots) = BeginsWith item ss × (slots ≡ length (spelling item)) × MayStand
    g ino item
IsNext g ino ss NextCut = BeginsItem ss
IsNext g ino ss NextBad = IsBad g ino ss

-- these items, which may stand in this log, take the first n slots
pub record Fill (g : Geometry) (ino : ℕ) (slots : List (List ℕ)) (items : List LogItem) (n : ℕ) :
    Type 0 where
  pub are_spelled : All IsSpelled items
  pub standing : All (MayStand g ino) items
  pub front : slots ≡ spelled items ++ drop n slots
  pub long : n ≡ length (spelled items)

-- and each is at its place in these pages
pub record AreFront (g : Geometry) (ino : ℕ) (pages : List ℕ) (slots : List (List ℕ))
    (items : List PlacedItem) (n : ℕ) : Type 0 where
  pub fill : Fill g ino slots (map item_of items) n
  pub places : map seen items ≡ placed_from pages 0 (map item_of items)

-- why there are no more, by the slots that are left
abbrev pub IsEnd : Geometry → ℕ → List (List ℕ) → End → Type 0
IsEnd g ino rest Filled = rest ≡ []
IsEnd g ino rest Cut = BeginsItem rest × (0 < length rest)
IsEnd g ino rest Bad = IsBad g ino rest × (0 < length rest)

pub record AreRead (g : Geometry) (ino : ℕ) (pages : List ℕ) (slots : List (List ℕ)) (read : Items)
    : Type 0 where
  pub front : AreFront g ino pages slots read.items.items read.taken
  pub end : IsEnd g ino (drop read.taken slots) read.end
