use Rattle.std.proofs.Common.{◌-◌, take}
use Rattle.sha1.specs.Sha1.{Holds}
use Rattle.dn_model.specs.Disk.{Disk}
use Rattle.dn_model.specs.Files.{bytes}
use Rattle.dn_volume.specs.Agrees.{IsVolume}
use Rattle.file_looks.proofs.reading.digest_of.Given as goal

abbrev pub invariant-loop-at : goal.invariant-loop-at
invariant-loop-at g l = (d : Disk) → IsVolume d l.v.parts (g.D.Pm.state l.v.device) → Holds l.hasher (take l.at (bytes d l.ino))

abbrev pub decreases-loop-at : goal.decreases-loop-at
decreases-loop-at g l = l.size - l.at
