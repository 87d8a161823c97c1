-- Laws of spellings.
use Rattle.std.specs.Prelude.{◌≡◌, ℕ, ◌+◌, ◌<◌, List, ◌++◌, length, slice_index, All}
use Rattle.log_entry.specs.Spelling.{le_number, spelling, spelled, IsSpelled}
use Rattle.log_entry.specs.Reading.{byte_of}
use Rattle.log_entry.specs.Fronts.{IsFrontOf}
use Rattle.log_entry.specs.declared.item.LogItem.{LogItem}
use Rattle.log_entry.specs.declared.read.Front.{Front}
use Rattle.log_entry.specs.declared.read.Front.TheVariants.{Whole}

-- one spelling stands for one item, and no spelling begins with another
abbrev pub SpellsOneItem : Type 0
SpellsOneItem = (x y : LogItem) (r s : List (List ℕ)) → IsSpelled x → IsSpelled y
    → spelling x ++ r ≡ spelling y ++ s → (x ≡ y) × (r ≡ s)

-- one list of slots spells one list of items
abbrev pub SpellsOneList : Type 0
SpellsOneList = (xs ys : List LogItem) → All IsSpelled xs → All IsSpelled ys
    → spelled xs ≡ spelled ys → xs ≡ ys

-- slots begin with one thing
abbrev pub HasOneFront : Type 0
HasOneFront = (f g : Front) (slots : List (List ℕ)) → IsFrontOf f slots → IsFrontOf g slots → f ≡ g

-- an item that was written is what is read again, whatever follows it
abbrev pub IsReadAgain : Type 0
IsReadAgain = (item : LogItem) (after : List (List ℕ)) → IsSpelled item
    → IsFrontOf (Whole item (length (spelling item))) (spelling item ++ after)

-- bytes come back from their number
abbrev pub BytesComeBack : Type 0
BytesComeBack = (bytes : List ℕ) (at n i : ℕ) → ((j : ℕ) → slice_index bytes j < 256) → i < n
    → byte_of (le_number bytes at n) i ≡ slice_index bytes (at + i)
