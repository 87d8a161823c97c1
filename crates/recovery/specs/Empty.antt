-- The laws of a file system without files.
use Rattle.std.specs.Prelude.{◌≡◌, ℕ, ◌-◌, List, None}
use Rattle.pm_layout.specs.declared.Geometry.{Geometry}
use Rattle.pm_layout.specs.Geometry.{IsAccepted, first_data}
use Rattle.dn_model.specs.Files.{files}
use Rattle.dn_model.specs.Valid.{IsValid}
use Rattle.dn_model.specs.Own.{Print, IsOwn}
use Rattle.dn_model.specs.Faults.{HasFree}
use Rattle.dn_model.specs.Empty.{empty_disk}

abbrev pub EmptyDisksAreValid : Type 0
EmptyDisksAreValid = (g : Geometry) → IsAccepted g → IsValid (empty_disk g)

abbrev pub EmptyDisksHaveNoFiles : Type 0
EmptyDisksHaveNoFiles = (g : Geometry) (name : List ℕ) → files (empty_disk g) name ≡ None

-- whatever the fingerprint
abbrev pub EmptyDisksAreOwn : Type 0
EmptyDisksAreOwn = (g : Geometry) (print : Print) → IsOwn print (empty_disk g)

-- all pages of the data area are free
abbrev pub EmptyDisksAreFree : Type 0
EmptyDisksAreFree = (g : Geometry) → HasFree (empty_disk g) (g.pages - first_data g)
