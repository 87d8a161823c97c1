-- Laws of a page's pointer: one word of the table.
use Rattle.std.specs.Prelude.{◌≡◌, ℕ, ◌+◌, ◌<◌, ◌≤◌, [], Contains}
use Rattle.pm_layout.specs.Geometry.{slots, pointer_word}
use Rattle.dn_model.specs.Table.{Row}
use Rattle.dn_model.specs.Disk.{Disk, rows}
use Rattle.dn_model.specs.Counts.{Exact}
use Rattle.dn_model.specs.Valid.{IsValid}
use Rattle.dn_model.specs.Own.{Print, IsOwn}
use Rattle.law_table.specs.Changes.{repointed}
use Rattle.law_table_on_disk.specs.OneWord.{IsOneWord}

-- the page may get this pointer: 0 or a slot's number and 1, and that of its row where it has one
pub record MayRepoint (d : Disk) (page value : ℕ) : Type 0 where
  pub valid : IsValid d
  pub in_image : page < d.geometry.pages
  pub small : value ≤ slots d.geometry
  pub leads : (row : Row) → Contains (rows d) row → row.page ≡ page → value ≡ row.slot + 1

-- its word decides
abbrev pub RepointIsOneWord : Type 0
RepointIsOneWord = (d : Disk) (page value : ℕ) → MayRepoint d page value
    → IsOneWord d (repointed d page value) 0 [] (pointer_word d.geometry page) value

-- the counts are as exact as before
abbrev pub RepointStaysExact : Type 0
RepointStaysExact = (d : Disk) (page value : ℕ) → Exact d → Exact (repointed d page value)

abbrev pub RepointStaysOwn : Type 0
RepointStaysOwn = (print : Print) (d : Disk) (page value : ℕ) → IsOwn print d
    → IsOwn print (repointed d page value)
