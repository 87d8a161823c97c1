-- How far the pages of a write are cut into runs, and how far the slots of the runs are made.
use Rattle.std.specs.Prelude.{
  ◌≡◌,
  ◌≢◌,
  ℕ,
  ◌+◌,
  ◌-◌,
  ◌<◌,
  ◌≤◌,
  List,
  ◌++◌,
  length,
  slice_index,
  drop,
}
use Rattle.log_entry.specs.Spelling.{spelled}
use Rattle.law_write.specs.Runs.{Run, run_items, places_in, block_at, IsChained}
use Rattle.file_content.specs.declared.runs.Run.{Run as KeptRun}
use Rattle.file_content.specs.Runs.{all_seen}
use Rattle.file_content.specs.Slots.{AreMaximal}

-- from `from` up to `at` the pages have consecutive numbers
pub record GoesOnTo (pages : List ℕ) (from at : ℕ) : Type 0 where
  pub within : at ≤ length pages
  pub consecutive : (i : ℕ) → from + i < at → slice_index pages (from + i) ≡ slice_index pages
      from + i

-- the first n of the pages are cut, and the next one doesn't follow the last of them
pub record IsCutTo (first : ℕ) (pages : List ℕ) (n : ℕ) (runs : List Run) : Type 0 where
  pub within : n ≤ length pages
  pub chained : IsChained first runs
  pub places : places_in runs ≡ n
  pub blocks : (i : ℕ) → i < n → block_at runs i ≡ slice_index pages i
  pub maximal : AreMaximal runs
  pub some : 1 ≤ n → 1 ≤ length runs
  pub few : length runs ≤ n
  pub apart : 1 ≤ n → n < length pages → slice_index pages n ≢ slice_index pages (n - 1) + 1

-- with the slots of the runs from the k-th on, these are the slots of all
pub record SpellsTo (size : ℕ) (runs : List KeptRun) (k : ℕ) (slots : List (List ℕ)) : Type 0 where
  pub whole : slots ++ spelled (run_items (all_seen (drop k runs)) size) ≡ spelled
      (run_items (all_seen runs) size)
