-- A disk that came of another by any number of changes, each of which is of one kind.
use Rattle.std.specs.Prelude.{List, ℕ}
use Rattle.dn_model.specs.Disk.{Disk}
use Rattle.dn_model.specs.Image.{StandsFor}

-- the image stands for a disk to which this relation leads from d
pub record HasLater (R : Disk → Disk → Type 0) (d : Disk) (c : List ℕ) : Type 0 where
  pub disk : Disk
  pub stands_for : StandsFor c disk
  pub is : R d disk
