-- The rows of the pages of a file's places.
use Rattle.std.specs.Prelude.{◌≡◌, ℕ, List, [], ◌∷◌, Option, Some, None}
use Rattle.std.specs.Option.{option_map}
use Rattle.std.specs.Ordering.{nat_cmp}
use Rattle.std.specs.FinMap.{FinMap, get}
use Rattle.file_index.specs.declared.page_map.Mapping.{Mapping}
use Rattle.file_content.specs.Content.{kept}
use Rattle.dn_model.specs.Disk.{Disk, maps}

-- what is kept in memory of a file's places is the disk's
abbrev pub ArePlacesOf : Disk → ℕ → FinMap nat_cmp Mapping → Type 0
ArePlacesOf d ino map = (idx : ℕ) → get map idx ≡ option_map kept (maps d ino idx)

-- a slot that was found, as a list
abbrev pub slot_list : Option ℕ → List ℕ
slot_list None = []
slot_list (Some slot) = slot ∷ []
