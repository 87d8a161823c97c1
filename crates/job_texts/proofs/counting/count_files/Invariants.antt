use Rattle.std.proofs.Common.{◌≡◌, ◌≤◌}
use Rattle.dn_model.specs.Disk.{Disk}
use Rattle.dn_volume.specs.Agrees.{IsVolume}
use Rattle.job_texts.proofs.CountedRows.{files_below}
use Rattle.job_texts.proofs.counting.count_files.Given as goal

abbrev pub invariant-loop-ino : goal.invariant-loop-ino
invariant-loop-ino g l = record {
  counted : (d : Disk) → IsVolume d l.v.parts (g.D.Pm.state l.v.device) → l.files ≡ files_below d l.ino;
  few : l.files ≤ l.ino;
}
