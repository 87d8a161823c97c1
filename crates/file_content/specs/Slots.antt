-- How the pages that a write takes are cut into runs.
use Rattle.std.specs.Prelude.{◌≡◌, ◌≢◌, ℕ, ◌+◌, ◌-◌, ◌<◌, ◌≤◌, List, [], ◌∷◌, length, slice_index}
use Rattle.law_write.specs.Runs.{Run, places_in, block_at, IsChained}

-- from this place on, so many of the pages have consecutive numbers, and the page behind them
-- doesn't follow
pub record IsRunAt (pages : List ℕ) (from count : ℕ) : Type 0 where
  pub some : 1 ≤ count
  pub within : from + count ≤ length pages
  pub consecutive : (i : ℕ) → i < count → slice_index pages (from + i) ≡ slice_index pages from + i
  pub ends : from + count < length pages → slice_index pages (from + count) ≢ slice_index pages
      (from + count - 1) + 1

-- the pages of a run don't go on in the run behind it
abbrev pub IsApartFrom : Run → List Run → Type 0
IsApartFrom run [] = Unit {0}
IsApartFrom run (next ∷ runs) = next.block ≢ run.block + run.count

-- so it is with each run
abbrev pub AreMaximal : List Run → Type 0
AreMaximal [] = Unit {0}
AreMaximal (run ∷ runs) = IsApartFrom run runs × AreMaximal runs

-- The places from `first` on go to these pages, one after another: cut into runs of consecutive
-- pages, each as long
-- as can be.
pub record IsCutInto (first : ℕ) (pages : List ℕ) (runs : List Run) : Type 0 where
  pub chained : IsChained first runs
  pub places : places_in runs ≡ length pages
  pub blocks : (i : ℕ) → i < length pages → block_at runs i ≡ slice_index pages i
  pub maximal : AreMaximal runs
  pub some : 1 ≤ length runs
  pub few : length runs ≤ length pages
