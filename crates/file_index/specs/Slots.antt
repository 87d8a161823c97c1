-- The slots of a log that names take.
use Rattle.std.specs.Prelude.{◌≡◌, ℕ, ◌+◌, ◌-◌, ◌/◌, ◌^◌, List, min}
use Rattle.std.specs.Ordering.{nat_cmp}
use Rattle.std.specs.List.{sum_by}
use Rattle.std.specs.Cmp.Lexicographic.{slice_cmp}
use Rattle.std.specs.FinMap.{FinMap, entries}
use Rattle.log_entry.specs.Spelling.{more_count}
use Rattle.file_index.specs.Entries.{IsRising}

-- how many slots an Add of a name takes
abbrev pub slots_of_add : List ℕ → ℕ
slots_of_add name = 1 + more_count name

-- how many an Add of each of these takes
abbrev pub entry_slots : List (List ℕ × ℕ) → ℕ
entry_slots es = sum_by (λ e. slots_of_add e.0) es

-- how many a log takes that has an Add of each name that leads anywhere
unfoldable pub add_slots_of : FinMap (slice_cmp nat_cmp) ℕ → ℕ
add_slots_of names = entry_slots (entries names)

-- How many more names there can be: as many as fit without memory, and such that the number of
-- their slots stays below 2 ^ 64, at 5 for each at most.
abbrev pub names_room : (capacity len slots : ℕ) → ℕ
names_room capacity len slots = min (capacity - len) ((2 ^ 64 - 1 - slots) / 5)

-- entries in the order of their names, and how many slots they take
pub record AreCounted (es : List (List ℕ × ℕ)) (slots : ℕ) : Type 0 where
  pub rising : IsRising (slice_cmp nat_cmp) es
  pub counted : slots ≡ entry_slots es
