-- What a commit of runs to a file stands on, and the disk that it makes.
use Rattle.std.specs.Prelude.{
  ◌≡◌,
  ◌≢◌,
  ℕ,
  ◌+◌,
  ◌/◌,
  ◌<◌,
  ◌≤◌,
  List,
  ◌++◌,
  length,
  slice_index,
  Contains,
}
use Rattle.log_entry.specs.Spelling.{pages_of}
use Rattle.dn_model.specs.Log.{count}
use Rattle.dn_model.specs.Disk.{Disk, Live}
use Rattle.dn_model.specs.Counts.{IsFree}
use Rattle.dn_model.specs.Valid.{IsValid}
use Rattle.law_write.specs.Events.{IsReadPage, IsUnused}
use Rattle.law_write.specs.Runs.{Run, run_items, places_in, block_at, IsChained}
use Rattle.law_write.specs.WithLog.{with_log, grown_log}

abbrev pub written_disk : Disk → ℕ → List ℕ → ℕ → List Run → (ℕ → ℕ → ℕ) → Disk
written_disk d ino fresh size runs word = with_log d ino
    (grown_log (d.inode ino).log fresh (run_items runs size)) word

-- a free page that the commit doesn't take
pub record IsLeft (d : Disk) (fresh : List ℕ) (runs : List Run) (page : ℕ) : Type 0 where
  pub free : IsFree d page
  pub no_block : (i : ℕ) → i < places_in runs → block_at runs i ≢ page
  pub not_fresh : Contains fresh page → ⊥

-- The runs map places from first on to unused pages, in a file that then has this size; the log
-- takes these fresh pages; the pages then have these words.
pub record MayWrite (d : Disk) (ino : ℕ) (fresh : List ℕ) (first size : ℕ) (runs : List Run)
    (word : ℕ → ℕ → ℕ) : Type 0 where
  pub valid : IsValid d
  pub file : 1 ≤ ino
  pub in_table : ino < d.geometry.inodes
  pub live : (d.inode ino).use_of ≡ Live
  pub some : 1 ≤ length runs
  pub chained : IsChained first runs
  pub in_size : first + places_in runs ≤ pages_of size
  pub small : size ≤ 16777216
  pub blocks : (i : ℕ) → i < places_in runs → IsUnused d (block_at runs i)
  pub blocks_apart : (i j : ℕ) → i < places_in runs → j < places_in runs
      → block_at runs i ≡ block_at runs j → i ≡ j
  pub fresh_unused : (page : ℕ) → Contains fresh page → IsUnused d page
  pub fresh_apart : (j k : ℕ) → j < length fresh → k < length fresh
      → slice_index fresh j ≡ slice_index fresh k → j ≡ k
  pub apart : (i : ℕ) → i < places_in runs → Contains fresh (block_at runs i) → ⊥
  pub room : length ((d.inode ino).log.pages ++ fresh) ≡ (count (d.inode ino).log + length
      runs + 62) / 63
  pub words : (page k : ℕ) → IsReadPage d page → word page k ≡ d.word page k
  pub left : (p : ℕ) × (q : ℕ) × (p ≢ q) × IsLeft d fresh runs p × IsLeft d fresh runs q
