-- The laws of cleaned logs.
use Rattle.std.specs.Prelude.{◌≡◌, ℕ, ◌+◌, ◌-◌, ◌<◌, ◌≤◌, ◌↔◌, Bool, true, false, List, [], slice_index, Contains, All, None}
use Rattle.pm_layout.specs.declared.Geometry.{Geometry}
use Rattle.log_entry.specs.Spelling.{IsSpelled}
use Rattle.dn_model.specs.Log.{Log, IsPaged, count, tail_at}
use Rattle.dn_model.specs.Maps.{mapping}
use Rattle.dn_model.specs.Disk.{Disk, Live}
use Rattle.dn_model.specs.Valid.{IsLog, MayStand, IsValid}
use Rattle.law_write.specs.Events.{IsUnused}
use Rattle.law_log_swap.specs.Relogged.{KeepsPlaces, KeepsDone}
use Rattle.law_log_swap.specs.Replaced.{AreAlike, MayReplace}
use Rattle.law_clean.specs.Cleaned.{
  begins_run,
  run_len,
  still_mapped,
  cleaned_items,
  cleaned_log,
  cleaned_slots,
  IsWorthCleaning,
}

-- n places that pass, between `first` and `end`, and at neither end can there be one more
pub record IsMaximalRun (test : ℕ → Bool) (first end from n : ℕ) : Type 0 where
  pub some : 1 ≤ n
  pub low : first ≤ from
  pub high : from + n ≤ end
  pub pass : (k : ℕ) → from ≤ k → k < from + n → test k ≡ true
  pub opens : first < from → test (from - 1) ≡ false
  pub closes : from + n < end → test (from + n) ≡ false

-- a place lies in a run that begins so
pub record IsInRun (test : ℕ → Bool) (first end k : ℕ) : Type 0 where
  pub from : ℕ
  pub low : first ≤ from
  pub begins : begins_run test first from ≡ true
  pub before : from ≤ k
  pub inside : k < from + run_len test from (end - from)

abbrev pub RunsAreMaximal : Type 0
RunsAreMaximal = (test : ℕ → Bool) (first end from : ℕ) → first ≤ from → from < end
    → begins_run test first from ≡ true → IsMaximalRun test first end from
    (run_len test from (end - from))

abbrev pub PlacesAreInRuns : Type 0
PlacesAreInRuns = (test : ℕ → Bool) (first end k : ℕ) → first ≤ k → k < end → test k ≡ true
    → IsInRun test first end k

-- the Writes of a log have no run left exactly where it maps no place
abbrev pub NothingIsMapped : Type 0
NothingIsMapped = (log : Log) → ((idx : ℕ) → mapping log idx ≡ None) ↔ (still_mapped log ≡ [])

-- the items of the cleaned log are spelled, and may stand in a log of this inode
abbrev pub CleanedIsSpelled : Type 0
CleanedIsSpelled = (g : Geometry) (ino : ℕ) (log : Log) → IsLog g ino log
    → All IsSpelled (cleaned_items ino log)

abbrev pub CleanedMayStand : Type 0
CleanedMayStand = (g : Geometry) (ino : ℕ) (log : Log) → IsLog g ino log
    → All (MayStand g ino) (cleaned_items ino log)

-- each place is on its page, by an item with the flag of before, and is left alone as before
abbrev pub CleanedMapsAlike : Type 0
CleanedMapsAlike = (g : Geometry) (ino : ℕ) (log : Log) (pages : List ℕ) → IsLog g ino log
    → (idx : ℕ) → AreAlike (mapping log idx) (mapping (cleaned_log ino log pages) idx)

abbrev pub CleanedKeepsPlaces : Type 0
CleanedKeepsPlaces = (g : Geometry) (ino : ℕ) (log : Log) (pages : List ℕ) → IsLog g ino log
    → KeepsPlaces ino log (cleaned_log ino log pages)

abbrev pub CleanedKeepsDone : Type 0
CleanedKeepsDone = (g : Geometry) (ino : ℕ) (log : Log) (pages : List ℕ) → IsLog g ino log
    → KeepsDone log (cleaned_log ino log pages)

-- a log that is worth cleaning has more slots than the cleaned one
abbrev pub CleanedIsShorter : Type 0
CleanedIsShorter = (g : Geometry) (ino : ℕ) (log : Log) → IsPaged g log → IsWorthCleaning ino log
    → cleaned_slots ino log < count log

-- that of the root never has more slots than its log
abbrev pub NamesTakeNoMore : Type 0
NamesTakeNoMore = (log : Log) → cleaned_slots 0 log ≤ count log

-- a cleaned log without items has no page: its head and its tail are 0
abbrev pub EmptyHasNoPage : Type 0
EmptyHasNoPage = (g : Geometry) (ino : ℕ) (log : Log) (pages : List ℕ)
    → IsPaged g (cleaned_log ino log pages) → cleaned_items ino log ≡ []
    → (slice_index pages 0 ≡ 0) × (tail_at pages (cleaned_slots ino log) ≡ 0)

-- The log of a live inode that is worth cleaning may be replaced by the cleaned one, on unused
-- pages.
abbrev pub CleanedMayReplace : Type 0
CleanedMayReplace = (d : Disk) (ino : ℕ) (pages : List ℕ) → IsValid d → ino < d.geometry.inodes
    → (d.inode ino).use_of ≡ Live
    → IsWorthCleaning ino (d.inode ino).log
    → IsPaged d.geometry (cleaned_log ino (d.inode ino).log pages)
    → ((page : ℕ) → Contains pages page → IsUnused d page)
    → MayReplace d ino (cleaned_log ino (d.inode ino).log pages)
