-- What is found of an image.
use Rattle.std.specs.Prelude.{ℕ, List, map}
use Rattle.dn_model.specs.Disk.{Disk}
use Rattle.dn_model.specs.Image.{StandsFor}
use Rattle.dn_model.specs.Faults.{FaultOf}
use Rattle.dn_model.specs.Numbers.{AreNumbersOf}
use Rattle.fact_scan.specs.Seen.{as_row}
use Rattle.dn_check.specs.declared.finding.Finding.{Finding}
use Rattle.dn_check.specs.declared.finding.Finding.TheVariants.{Fault, Sound}

-- what a finding tells of an image: its first fault, or that it has none, and the numbers of the
-- disk that it stands for
abbrev pub Tells : List ℕ → Finding → Type 0
Tells c (Fault fault) = FaultOf c fault
Tells c (Sound files dying rows mapped free exact) = (d : Disk) × StandsFor c d × AreNumbersOf d
    files dying (map as_row rows) mapped free exact
