-- What an operation on names doesn't touch.
use Rattle.std.specs.Prelude.{◌≡◌, ◌⊎◌, ℕ, ◌≤◌, List, Contains}
use Rattle.dn_model.specs.Maps.{Mapping}
use Rattle.dn_model.specs.Disk.{Disk, IsMapped, IsUsed, maps, rows}
use Rattle.dn_model.specs.Counts.{mappings, IsLogPage, IsFree, Near, Exact}
use Rattle.dn_model.specs.Files.{bytes}
use Rattle.dn_model.specs.Own.{LivePlace, Settled}

-- Mappings, rows, counts and the words of pages are what they were, and the bytes of the files that
-- there were. Of the
-- pages the fresh ones alone are taken.
pub record KeepsData (old new : Disk) (fresh : List ℕ) : Type 0 where
  pub geometry : new.geometry ≡ old.geometry
  pub maps_same : (ino idx : ℕ) → maps new ino idx ≡ maps old ino idx
  pub mappings_same : (page : ℕ) → mappings new page ≡ mappings old page
  pub mapped_kept : (page : ℕ) → IsMapped old page → IsMapped new page
  pub mapped_only : (page : ℕ) → IsMapped new page → IsMapped old page
  pub rows_same : rows new ≡ rows old
  pub pointers : (page : ℕ) → new.pointer page ≡ old.pointer page
  pub words : (page k : ℕ) → new.word page k ≡ old.word page k
  pub near : Near old → Near new
  pub exact : Exact old → Exact new
  pub settled : Settled old → Settled new
  pub live_only : (ino idx : ℕ) (m : Mapping) → LivePlace new ino idx m → LivePlace old ino idx m
  pub bytes_same : (ino : ℕ) → 1 ≤ ino → IsUsed (old.inode ino).use_of
      → bytes new ino ≡ bytes old ino
  pub log_pages_kept : (page : ℕ) → IsLogPage old page → IsLogPage new page
  pub log_pages_only : (page : ℕ) → IsLogPage new page → IsLogPage old page ⊎ Contains fresh page
  pub free_kept : (page : ℕ) → IsFree old page → (Contains fresh page → ⊥) → IsFree new page
  pub free_only : (page : ℕ) → IsFree new page → IsFree old page
  pub fresh_taken : (page : ℕ) → Contains fresh page → IsFree new page → ⊥
