-- How the mappings of pages fall with a change of a file's data.
use Rattle.std.specs.Prelude.{◌≡◌, ◌≢◌, ◌⊎◌, ℕ, ◌+◌, ◌<◌, ◌≤◌, Some}
use Rattle.dn_model.specs.Maps.{Mapping, size_of}
use Rattle.dn_model.specs.Disk.{Disk, maps}
use Rattle.dn_model.specs.Counts.{total, hit, mappings}
use Rattle.law_write.specs.Writing.{Writes}

-- Places of the file outside of the n from this one on keep their mappings; those inside are mapped
-- to pages of the
-- event, or go.
pub record Drops (ino : ℕ) (old new : Disk) (w : Writes ino old new) (from n : ℕ) : Type 0 where
  pub in_file : from + n ≤ 4096
  pub kept : (idx : ℕ) → (idx < from) ⊎ (from + n ≤ idx) → maps new ino idx ≡ maps old ino idx
  pub anew : (idx : ℕ) (m : Mapping) → from ≤ idx → idx < from + n → maps new ino idx ≡ Some m
      → (i : ℕ) × (i < w.n) × (m.block ≡ w.blocks i)

-- how many of the n places were on this page
abbrev pub dropped_from : Disk → (ino from n page : ℕ) → ℕ
dropped_from d ino from n page = total n (λ i. hit page (maps d ino (from + i)))

-- a write that doesn't cut its file drops the places that it maps
abbrev pub WritesDrop : Type 0
WritesDrop = (ino : ℕ) (old new : Disk) (w : Writes ino old new)
    → size_of (old.inode ino).log ≤ w.size → w.first + w.n ≤ 4096 → Drops ino old new w w.first w.n

-- the mappings of a page that isn't the event's fall by them
abbrev pub WritesDropMappings : Type 0
WritesDropMappings = (ino : ℕ) (old new : Disk) (w : Writes ino old new) (from n : ℕ)
    → Drops ino old new w from n → (page : ℕ) → ((i : ℕ) → i < w.n → w.blocks i ≢ page)
    → mappings new page + dropped_from old ino from n page ≡ mappings old page
