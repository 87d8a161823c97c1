-- How many slots cleaned logs take, by what is kept of their inodes in memory.
use Rattle.std.specs.Prelude.{◌≡◌, ℕ, zero, suc, ◌≤◌, ◌==◌, if◌then◌else◌, List, length, None}
use Rattle.std.specs.Option.{option_map}
use Rattle.std.specs.Ordering.{nat_cmp}
use Rattle.std.specs.Cmp.Lexicographic.{slice_cmp}
use Rattle.std.specs.FinMap.{FinMap, get}
use Rattle.pm_layout.specs.declared.Geometry.{Geometry}
use Rattle.file_index.specs.declared.page_map.Mapping.{Mapping as KeptMapping}
use Rattle.file_index.specs.Runs.{runs_of}
use Rattle.file_index.specs.Slots.{add_slots_of}
use Rattle.file_content.specs.Content.{kept}
use Rattle.dn_model.specs.Log.{Log}
use Rattle.dn_model.specs.Maps.{mapping, size_of}
use Rattle.dn_model.specs.Files.{named_after}
use Rattle.dn_model.specs.Valid.{IsLog}
use Rattle.law_clean.specs.Cleaned.{still_mapped, cleaned_slots}

-- the slots of a cleaned log with so many Writes, of a file of this size: a Size is for no Write
abbrev pub or_size_slots : ℕ → ℕ → ℕ
or_size_slots size zero = if size == 0 then 0 else 1
or_size_slots size (suc k) = suc k

-- what is kept of each place is what the log says
abbrev pub KeepsPlaces : Log → FinMap nat_cmp KeptMapping → Type 0
KeepsPlaces log places = (idx : ℕ) → get places idx ≡ option_map kept (mapping log idx)

-- each name leads where it leads by the log
abbrev pub KeepsNames : Log → FinMap (slice_cmp nat_cmp) ℕ → Type 0
KeepsNames log names = (name : List ℕ) → get names name ≡ named_after name None log.items

abbrev pub WritesAreRuns : Type 0
WritesAreRuns = (g : Geometry) (ino : ℕ) (log : Log) (places : FinMap nat_cmp KeptMapping)
    → IsLog g ino log → KeepsPlaces log places → length (still_mapped log) ≡ runs_of places

abbrev pub FileTakesRuns : Type 0
FileTakesRuns = (g : Geometry) (ino : ℕ) (log : Log) (places : FinMap nat_cmp KeptMapping) → 1 ≤ ino
    → IsLog g ino log → KeepsPlaces log places
    → cleaned_slots ino log ≡ or_size_slots (size_of log) (runs_of places)

abbrev pub RootTakesAdds : Type 0
RootTakesAdds = (log : Log) (names : FinMap (slice_cmp nat_cmp) ℕ) → KeepsNames log names
    → cleaned_slots 0 log ≡ add_slots_of names
