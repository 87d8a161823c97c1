-- What is read of an image before its table, and when an image stands for a state.
use Rattle.std.specs.Prelude.{◌≡◌, ◌≢◌, ◌⊎◌, ℕ, List}
use Rattle.pm_device.specs.Reading.{Reads}
use Rattle.dn_model.specs.Rolled.{rolled}
use Rattle.dn_model.specs.Disk.{Disk, PagesSay}
use Rattle.dn_model.specs.Counts.{IsFree, Near}
use Rattle.dn_model.specs.Valid.{IsSingle}
use Rattle.dn_model.specs.Image.{StandsFor}
use Rattle.dn_model.specs.Faults.{FaultOf, HasLinks, HasPointers}
use Rattle.dn_model.specs.declared.fault.ImageFault.{ImageFault}

-- words have the first fault of an image, or pass the rules up to the links of inodes
abbrev pub AreReadToLinks : Type 0
AreReadToLinks = (c : List ℕ) → ((f : ImageFault) × FaultOf c f) ⊎ ((d : Disk) × HasLinks c d)

-- these rules speak of the geometry and the inodes alone
abbrev pub LinksStay : Type 0
LinksStay = (c : List ℕ) (d e : Disk) → e.geometry ≡ d.geometry
    → ((ino : ℕ) → e.inode ino ≡ d.inode ino) → HasLinks c d → HasLinks c e

-- words that pass all rules stand for the state
abbrev pub PassingStands : Type 0
PassingStands = (c : List ℕ) (d : Disk) → HasPointers c d → Reads (PagesSay d) (rolled c)
    → IsSingle d → Near d
    → (p q : ℕ) → p ≢ q → IsFree d p → IsFree d q → StandsFor c d
