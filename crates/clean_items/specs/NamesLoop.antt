-- How the items of the root's log are gone through, the last first.
use Rattle.std.specs.Prelude.{
  ◌≡◌,
  ℕ,
  ◌-◌,
  Bool,
  ◌||◌,
  is_some,
  if◌then◌else◌,
  List,
  [],
  ◌∷◌,
  ◌++◌,
  length,
  map,
  reverse,
  drop,
}
use Rattle.std.specs.List.{list_any}
use Rattle.std.specs.Ordering.{nat_cmp}
use Rattle.std.specs.Cmp.Lexicographic.{slice_cmp}
use Rattle.std.specs.FinMap.{FinMap, get}
use Rattle.log_entry.specs.Name.{same_name}
use Rattle.log_entry.specs.declared.item.LogItem.{LogItem}
use Rattle.log_entry.specs.declared.item.LogItem.TheVariants.{Write, Size, Add, Forget}
use Rattle.log_walk.specs.Items.{item_of}
use Rattle.log_walk.specs.declared.items.Placed.{Placed as PlacedItem}
use Rattle.law_clean.specs.Cleaned.{is_of_name, last_adds}

-- names, each with any number
abbrev pub NameSet : Type 0
NameSet = FinMap (slice_cmp nat_cmp) ℕ

abbrev pub is_met : NameSet → List ℕ → Bool
is_met met name = is_some (get met name)

-- the name is met too
abbrev pub Meets : List ℕ → NameSet → NameSet → Type 0
Meets name old new = (q : List ℕ) → is_met new q ≡ (same_name name q || is_met old q)

-- an item that stays, if its name wasn't met after it
abbrev pub last_add : NameSet → LogItem → List LogItem
last_add met (Write first count block size flag mask) = []
last_add met (Size size) = []
last_add met (Add ino name) = if is_met met name then [] else (Add ino name ∷ [])
last_add met (Forget name) = []

-- one item more is gone through
pub record GoesBack (item : LogItem) (old new : List LogItem) (was now : NameSet) : Type 0 where
  pub adds : new ≡ old ++ last_add was item
  pub met : (name : List ℕ) → is_met now name ≡ (is_of_name name item || is_met was name)

-- the last k items are gone through
pub record IsBackBy (items : List PlacedItem) (k : ℕ) (adds : List LogItem) (met : NameSet) :
    Type 0 where
  pub last : reverse adds ≡ last_adds (map item_of (drop (length items - k) items))
  pub names : (name : List ℕ) → is_met met name ≡ list_any (is_of_name name)
      (map item_of (drop (length items - k) items))
