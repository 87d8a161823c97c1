-- Runs as they are kept in memory, and what they make of the mappings that are kept in memory.
use Rattle.std.specs.Prelude.{
  ℕ,
  ◌+◌,
  ◌-◌,
  ◌&&◌,
  nat_le,
  nat_lt,
  if◌then◌else◌,
  List,
  [],
  ◌∷◌,
  map,
  Option,
  Some,
}
use Rattle.file_index.specs.declared.page_map.Mapping.{Mapping}
use Rattle.law_write.specs.Runs.{Run as DiskRun}
use Rattle.file_content.specs.declared.runs.Run.{Run}

-- a run, as the laws of changes see it
abbrev pub seen : Run → DiskRun
seen run = record { first = run.first; count = run.count; block = run.block }

abbrev pub all_seen : List Run → List DiskRun
all_seen runs = map seen runs

-- what becomes of the mapping of place idx where n places from `first` on go to the pages from
-- `block` on, by the item
-- at this slot
abbrev pub mapped_by : ℕ → ℕ → ℕ → ℕ → ℕ → Option Mapping → Option Mapping
mapped_by first n block slot idx old = if nat_le first idx && nat_lt idx (first + n) then Some
    (record { block = block + (idx - first); slot = slot; bit = idx - first }) else old

-- the same for runs one after another, whose items are at the slots of these names from the k-th on
abbrev pub mapped_by_all : (ℕ → ℕ) → ℕ → ℕ → Option Mapping → List Run → Option Mapping
mapped_by_all name k idx old [] = old
mapped_by_all name k idx old (run ∷ runs) = mapped_by_all name (k + 1) idx
    (mapped_by run.first run.count run.block (name k) idx old) runs
