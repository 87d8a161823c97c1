-- What the head of an image tells.
use Rattle.std.specs.Prelude.{◌≡◌, ℕ, ◌*◌, List, length, slice_index}
use Rattle.pm_layout.specs.Geometry.{IsAccepted}
use Rattle.dn_model.specs.Faults.{geometry_of}
use Rattle.dn_model.specs.declared.fault.ImageFault.{ImageFault}
use Rattle.dn_model.specs.declared.fault.ImageFault.TheVariants.{
  NotAnImage,
  WrongVersion,
  BadGeometry,
  BadJournal,
  BadInode,
  BadLog,
  BadLink,
  BadTable,
  BadPointer,
  DoubleMapped,
  BadCount,
  Crowded,
}

-- words 2 and 3 make a geometry, and the image has just its pages
pub record IsSized (c : List ℕ) : Type 0 where
  pub accepted : IsAccepted (geometry_of c)
  pub size : length c ≡ 512 * slice_index c 2

-- a fault of the head or of the journal, which are read before a journal is rolled back
abbrev pub IsHeadFault : ImageFault → Type 0
IsHeadFault NotAnImage = Unit {0}
IsHeadFault (WrongVersion found) = Unit {0}
IsHeadFault BadGeometry = Unit {0}
IsHeadFault BadJournal = Unit {0}
IsHeadFault (BadInode ino) = ⊥
IsHeadFault (BadLog ino place) = ⊥
IsHeadFault (BadLink ino) = ⊥
IsHeadFault (BadTable slot) = ⊥
IsHeadFault (BadPointer page) = ⊥
IsHeadFault (DoubleMapped page) = ⊥
IsHeadFault (BadCount slot) = ⊥
IsHeadFault (Crowded free) = ⊥
