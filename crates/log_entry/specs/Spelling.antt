-- How items of a log are spelled: each takes one or more slots of eight words.
use Rattle.std.specs.Prelude.{
  ℕ,
  zero,
  suc,
  ◌+◌,
  ◌-◌,
  ◌*◌,
  ◌/◌,
  ◌^◌,
  ◌<◌,
  ◌≤◌,
  List,
  [],
  ◌∷◌,
  length,
  map,
  slice_index,
}
use Rattle.std.specs.List.{range_with_len, flat_map}
use Rattle.log_entry.specs.Name.{IsLegal}
use Rattle.log_entry.specs.declared.item.Flag.{Flag}
use Rattle.log_entry.specs.declared.item.Flag.TheVariants.{Needed, InProcess, Complete}
use Rattle.log_entry.specs.declared.item.LogItem.{LogItem}
use Rattle.log_entry.specs.declared.item.LogItem.TheVariants.{Write, Size, Add, Forget}

abbrev pub flag_number : Flag → ℕ
flag_number Needed = 1
flag_number InProcess = 2
flag_number Complete = 3

-- the n bytes from a place on as a number, the first the least significant; 0 past the end
abbrev pub le_number : List ℕ → ℕ → ℕ → ℕ
le_number bytes at zero = 0
le_number bytes at (suc n) = slice_index bytes at + 256 * le_number bytes (at + 1) n

-- n words of a name, from its word k on
unfoldable pub name_words : List ℕ → ℕ → ℕ → List ℕ
name_words name k n = map (λ i. le_number name (8 * i) 8) (range_with_len k n)

-- the slots that go on with a name, from its word k on
abbrev pub more_slots : List ℕ → ℕ → ℕ → List (List ℕ)
more_slots name k zero = []
more_slots name k (suc n) = (5 ∷ name_words name k 7) ∷ more_slots name (k + 7) n

-- how many of them a name needs
abbrev pub more_count : List ℕ → ℕ
more_count name = (length name - 40 + 55) / 56

-- the slots of an item of this kind that has a name
abbrev pub name_slots : ℕ → ℕ → List ℕ → List (List ℕ)
name_slots kind ino name = (kind ∷ ino ∷ length name ∷ name_words name 0 5) ∷ more_slots name 5
    (more_count name)

-- the slots of an item
unfoldable pub spelling : LogItem → List (List ℕ)
spelling (Write first count block size flag mask) = (1 ∷ first ∷ count ∷ block ∷ size ∷ flag_number
    flag ∷ mask ∷ 0 ∷ []) ∷ []
spelling (Size size) = (2 ∷ size ∷ 0 ∷ 0 ∷ 0 ∷ 0 ∷ 0 ∷ 0 ∷ []) ∷ []
spelling (Add ino name) = (3 ∷ ino ∷ length name ∷ name_words name 0 5) ∷ more_slots name 5
    (more_count name)
spelling (Forget name) = (4 ∷ 0 ∷ length name ∷ name_words name 0 5) ∷ more_slots name 5
    (more_count name)

-- the slots of items, one after the other
abbrev pub spelled : List LogItem → List (List ℕ)
spelled items = flat_map spelling items

-- the pages of a size
abbrev pub pages_of : ℕ → ℕ
pages_of size = (size + 4095) / 4096

-- the ranges in which an item is spelled
abbrev pub IsSpelled : LogItem → Type 0
IsSpelled (Write first count block size flag mask) =
    (1 ≤ count) × (count ≤ 17) × (first + count ≤ pages_of size) × (size ≤ 16777216) ×
    (mask < 2 ^ count)
IsSpelled (Size size) = size ≤ 16777216
IsSpelled (Add ino name) = IsLegal name
IsSpelled (Forget name) = IsLegal name
