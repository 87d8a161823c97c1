-- What slots begin with.
use Rattle.std.specs.Prelude.{◌≡◌, ◌≢◌, ℕ, List, [], ◌++◌, length}
use Rattle.log_entry.specs.Spelling.{spelling, IsSpelled}
use Rattle.log_entry.specs.declared.item.LogItem.{LogItem}
use Rattle.log_entry.specs.declared.read.Front.{Front}
use Rattle.log_entry.specs.declared.read.Front.TheVariants.{Whole, Part, Nothing}

-- an item's slots begin with these, and are more
pub record BeginsItem (ss : List (List ℕ)) : Type 0 where
  pub item : LogItem
  pub spelled : IsSpelled item
  pub rest : List (List ℕ)
  pub more : rest ≢ []
  pub is : ss ++ rest ≡ spelling item

-- these begin with an item's slots
pub record BeginsWith (item : LogItem) (ss : List (List ℕ)) : Type 0 where
  pub spelled : IsSpelled item
  pub rest : List (List ℕ)
  pub is : ss ≡ spelling item ++ rest

-- no item's slots begin with these, and these begin with no item's slots
pub record BeginsNothing (ss : List (List ℕ)) : Type 0 where
  pub no_part : BeginsItem ss → ⊥
  pub no_whole : (item : LogItem) → BeginsWith item ss → ⊥

-- what slots begin with
abbrev pub IsFrontOf : Front → List (List ℕ) → Type 0
IsFrontOf (Whole item slots) ss = BeginsWith item ss × (slots ≡ length (spelling item))
IsFrontOf Part ss = BeginsItem ss
IsFrontOf Nothing ss = BeginsNothing ss
