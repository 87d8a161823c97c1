-- The cleaned log of an inode has the items that its log still needs, and no others.
use Rattle.std.specs.Prelude.{ℕ, zero, suc, ◌+◌, ◌-◌, ◌*◌, ◌/◌, ◌%◌, ◌^◌, ◌≤◌, Bool, false, ◌&&◌, not, nat_lt, ◌==◌, if◌then◌else◌, List, [], ◌∷◌, length, map, filter, Option, Some, None}
use Rattle.std.specs.List.{range_with_len, flat_map, list_any}
use Rattle.log_entry.specs.Name.{same_name}
use Rattle.log_entry.specs.Spelling.{spelled}
use Rattle.log_entry.specs.declared.item.Flag.{Flag}
use Rattle.log_entry.specs.declared.item.LogItem.{LogItem}
use Rattle.log_entry.specs.declared.item.LogItem.TheVariants.{Write, Size, Add, Forget}
use Rattle.dn_model.specs.Log.{Log, placed}
use Rattle.dn_model.specs.Maps.{Mapping, mapping, size_of}

-- the item at this slot is the one that maps the place
abbrev pub is_by : ℕ → Option Mapping → Bool
is_by slot None = false
is_by slot (Some m) = m.slot == slot

-- A run of places that pass a test begins at a place that passes, if the place before, from `first`
-- on, doesn't.
abbrev pub begins_run : (ℕ → Bool) → ℕ → ℕ → Bool
begins_run test first k = test k && not (nat_lt first k && test (k - 1))

-- how many of n places pass, one after another, from place k on
abbrev pub run_len : (ℕ → Bool) → ℕ → ℕ → ℕ
run_len test k zero = 0
run_len test k (suc n) = if test k then suc (run_len test (k + 1) n) else 0

-- n places of a Write, from place `from` on, with their bits of its mask
abbrev pub part_of : (size first block : ℕ) → Flag → (mask from n : ℕ) → LogItem
part_of size first block flag mask from n = Write from n (block + (from - first)) size flag
    (mask / 2 ^ (from - first) % 2 ^ n)

-- of an item one Write for each maximal run of its places that pass, with this size
abbrev pub parts_of : (ℕ → Bool) → ℕ → LogItem → List LogItem
parts_of test size (Write first count block was flag mask) =
    map (λ from. part_of size first block flag mask from (run_len test from (first + count - from)))
    (filter (begins_run test first) (range_with_len first count))
parts_of test size (Size was) = []
parts_of test size (Add ino name) = []
parts_of test size (Forget name) = []

-- those of the items of a log, of the places that each item still maps
unfoldable pub still_mapped : Log → List LogItem
still_mapped log = flat_map
    (λ p. parts_of (λ idx. is_by p.slot (mapping log idx)) (size_of log) p.item)
    (placed log)

-- where no place is mapped, a Size says what isn't 0
abbrev pub or_size : ℕ → List LogItem → List LogItem
or_size size [] = if size == 0 then [] else (Size size ∷ [])
or_size size (item ∷ items) = item ∷ items

-- the item is of this name
abbrev pub is_of_name : List ℕ → LogItem → Bool
is_of_name name (Write first count block size flag mask) = false
is_of_name name (Size size) = false
is_of_name name (Add ino new) = same_name new name
is_of_name name (Forget old) = same_name old name

-- the Adds after which no item is of their name
abbrev pub last_adds : List LogItem → List LogItem
last_adds [] = []
last_adds (Write first count block size flag mask ∷ items) = last_adds items
last_adds (Size size ∷ items) = last_adds items
last_adds (Add ino name ∷ items) =
    if list_any (is_of_name name) items then last_adds items else (Add ino name ∷ last_adds items)
last_adds (Forget name ∷ items) = last_adds items

-- The items of the cleaned log of an inode, as log cleaning in NOVA (FAST 2016) keeps them: of a
-- file what each Write still maps, and of the root the names that lead anywhere.
unfoldable pub cleaned_items : ℕ → Log → List LogItem
cleaned_items zero log = last_adds log.items
cleaned_items (suc k) log = or_size (size_of log) (still_mapped log)

-- the cleaned log on these pages
abbrev pub cleaned_log : ℕ → Log → List ℕ → Log
cleaned_log ino log pages = record { pages = pages; items = cleaned_items ino log }

-- how many slots it takes
abbrev pub cleaned_slots : ℕ → Log → ℕ
cleaned_slots ino log = length (spelled (cleaned_items ino log))

-- the pages of a log of n slots
abbrev pub pages_for : ℕ → ℕ
pages_for n = (n + 62) / 63

-- A log of two pages or more is worth cleaning, if the cleaned one takes no more than half of them.
pub record IsWorthCleaning (ino : ℕ) (log : Log) : Type 0 where
  pub two : 2 ≤ length log.pages
  pub half : 2 * pages_for (cleaned_slots ino log) ≤ length log.pages
