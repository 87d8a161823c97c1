-- What a commit writes is cut into runs: consecutive places of the file on consecutive pages. Each
-- run is one Write item.
use Rattle.std.specs.Prelude.{◌≡◌, ℕ, ◌+◌, ◌-◌, ◌≤◌, if◌then◌else◌, nat_lt, List, [], ◌∷◌, map}
use Rattle.log_entry.specs.declared.item.Flag.TheVariants.{Needed}
use Rattle.log_entry.specs.declared.item.LogItem.{LogItem}
use Rattle.log_entry.specs.declared.item.LogItem.TheVariants.{Write}

-- count places of the file, from place first on, go to as many pages from page block on
pub record Run : Type 0 where
  pub first : ℕ
  pub count : ℕ
  pub block : ℕ

-- the item of a run in a file of this size, for the daemon to work on
abbrev pub run_item : ℕ → Run → LogItem
run_item size run = Write run.first run.count run.block size Needed 0

abbrev pub run_items : List Run → ℕ → List LogItem
run_items runs size = map (run_item size) runs

-- the number of places
abbrev pub places_in : List Run → ℕ
places_in [] = 0
places_in (run ∷ runs) = run.count + places_in runs

-- the page of the i-th of these places
abbrev pub block_at : List Run → ℕ → ℕ
block_at [] i = 0
block_at (run ∷ runs) i = if nat_lt i run.count then run.block + i else block_at runs
    (i - run.count)

-- the runs follow each other from this place on, and an item can tell each
abbrev pub IsChained : ℕ → List Run → Type 0
IsChained first [] = Unit {0}
IsChained first (run ∷ runs) = (run.first ≡ first) × (1 ≤ run.count) × (run.count ≤ 17) × IsChained
    (first + run.count) runs
