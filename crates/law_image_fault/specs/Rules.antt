-- Whether an image passes the rules behind the links.
use Rattle.std.specs.Prelude.{◌≢◌, ◌⊎◌, ◌↔◌, ℕ, ◌<◌, List}
use Rattle.dn_model.specs.Disk.{Disk}
use Rattle.dn_model.specs.Counts.{IsFree}
use Rattle.dn_model.specs.Image.{HasNoFault}
use Rattle.dn_model.specs.Faults.{HasLinks, IsDouble, HasFree, FaultOf}
use Rattle.dn_model.specs.declared.fault.ImageFault.{ImageFault}

-- it is decided whether a page is used against the rules, and whether it is free
pub record IsDecided (d : Disk) (page : ℕ) : Type 0 where
  pub double : IsDouble d page ⊎ (IsDouble d page → ⊥)
  pub free : IsFree d page ⊎ (IsFree d page → ⊥)

abbrev pub PagesAreDecided : Type 0
PagesAreDecided = (d : Disk) (page : ℕ) → IsDecided d page

-- fewer than two pages are free, or two different ones
pub data FreePages (d : Disk) : Type 0 where
  are_few : (n : ℕ) → HasFree d n → n < 2 → FreePages d
  are_two : (p q : ℕ) → p ≢ q → IsFree d p → IsFree d q → FreePages d

abbrev pub FreePagesAreCounted : Type 0
FreePagesAreCounted = (d : Disk) → FreePages d

-- an image that is read up to its links has a fault or none
abbrev pub LinkedImagesAreJudged : Type 0
LinkedImagesAreJudged = (c : List ℕ) (d : Disk) → HasLinks c d
    → ((fault : ImageFault) × FaultOf c fault) ⊎ HasNoFault c

-- any words have a first fault, or stand for a valid disk
abbrev pub ImagesAreJudged : Type 0
ImagesAreJudged = (c : List ℕ) → ((fault : ImageFault) × FaultOf c fault) ⊎ HasNoFault c

-- they have no fault exactly where they stand for one
abbrev pub NoFaultIsState : Type 0
NoFaultIsState = (c : List ℕ) → ((fault : ImageFault) → FaultOf c fault → ⊥) ↔ HasNoFault c
