-- Laws of counts.
use Rattle.std.specs.Prelude.{◌≡◌, ◌↔◌, ℕ, ◌≤◌}
use Rattle.pm_layout.specs.Geometry.{InData}
use Rattle.dn_model.specs.Disk.{Disk, IsMapped}
use Rattle.dn_model.specs.Counts.{mappings, IsLogPage, IsFree}
use Rattle.dn_model.specs.Faults.{HasFree}

-- the count of mappings is above 0 exactly where some place is mapped
abbrev pub CountsMappings : Type 0
CountsMappings = (d : Disk) (page : ℕ) → (1 ≤ mappings d page) ↔ IsMapped d page

-- so a page of the data area is free exactly if no log has it and no place is mapped to it
abbrev pub FreeIsUnused : Type 0
FreeIsUnused = (d : Disk) (page : ℕ)
    → IsFree d page ↔ (InData d.geometry page × (IsLogPage d page → ⊥) × (IsMapped d page → ⊥))

-- one number of pages is free at most
abbrev pub HasOneFreeCount : Type 0
HasOneFreeCount = (d : Disk) (n m : ℕ) → HasFree d n → HasFree d m → n ≡ m
