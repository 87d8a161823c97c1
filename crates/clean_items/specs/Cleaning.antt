-- The items of a cleaned log, from what is read of the log and what is kept of its file.
use Rattle.std.specs.Prelude.{◌≡◌, ℕ, ◌+◌, ◌-◌, ◌≤◌, Bool, false, ◌==◌, if◌then◌else◌, List, [], ◌∷◌, map, filter, Option, Some, None}
use Rattle.std.specs.Option.{option_map}
use Rattle.std.specs.Ordering.{nat_cmp}
use Rattle.std.specs.List.{range_with_len, flat_map}
use Rattle.std.specs.FinMap.{FinMap, get}
use Rattle.log_entry.specs.declared.item.Flag.{Flag}
use Rattle.log_entry.specs.declared.item.LogItem.{LogItem}
use Rattle.file_index.specs.declared.page_map.Mapping.{Mapping as KeptMapping}
use Rattle.dn_model.specs.Log.{Log}
use Rattle.dn_model.specs.Maps.{mapping, size_of}
use Rattle.log_walk.specs.declared.items.Placed.{Placed as PlacedItem}
use Rattle.file_content.specs.Content.{kept}
use Rattle.law_clean.specs.Cleaned.{begins_run, run_len, part_of, parts_of}

-- what is kept of a file's places
abbrev pub PlacesMap : Type 0
PlacesMap = FinMap nat_cmp KeptMapping

-- the item at this slot is the one that maps the place
abbrev pub is_kept_by : ℕ → Option KeptMapping → Bool
is_kept_by slot None = false
is_kept_by slot (Some m) = m.slot == slot

-- the places that the item at this slot still maps
abbrev pub maps_still : PlacesMap → ℕ → ℕ → Bool
maps_still places slot idx = is_kept_by slot (get places idx)

-- the part of a Write for the run that begins at a place, if one does
abbrev pub part_at : (ℕ → Bool) → (size first count block : ℕ) → Flag → (mask from : ℕ)
    → List LogItem
part_at test size first count block flag mask from =
    if begins_run test first from then
    (part_of size first block flag mask from (run_len test from (first + count - from)) ∷ [])
    else []

-- the parts of a Write for the runs that begin at one of its first n places
abbrev pub parts_to : (ℕ → Bool) → (size first count block : ℕ) → Flag → (mask n : ℕ) → List LogItem
parts_to test size first count block flag mask n =
    map (λ from. part_of size first block flag mask from (run_len test from (first + count - from)))
    (filter (begins_run test first) (range_with_len first n))

-- those of the Writes among these items
abbrev pub parts_by : PlacesMap → ℕ → List PlacedItem → List LogItem
parts_by places size items = flat_map (λ p. parts_of (maps_still places p.slot) size p.item) items

-- a Write of few places, in the file and in the image
pub record IsFew (first count block : ℕ) : Type 0 where
  pub few : count ≤ 17
  pub places : first + count ≤ 4096
  pub blocks : block + count ≤ 65536

-- the size and the places are those of the log's file
pub record IsKeptOf (log : Log) (size : ℕ) (places : PlacesMap) : Type 0 where
  pub size_is : size_of log ≡ size
  pub each : (idx : ℕ) → get places idx ≡ option_map kept (mapping log idx)
