use Rattle.std.proofs.Common.{◌≡◌, ◌≤◌}
use Rattle.dn_model.specs.Disk.{Disk}
use Rattle.dn_volume.specs.Agrees.{IsVolume}
use Rattle.job_texts.proofs.CountedRows.{rows_below}
use Rattle.job_texts.proofs.counting.count_rows.Given as goal

abbrev pub invariant-loop-slot : goal.invariant-loop-slot
invariant-loop-slot g l = record {
  counted : (d : Disk) → IsVolume d l.v.parts (g.D.Pm.state l.v.device) → l.rows ≡ rows_below d l.slot;
  few : l.rows ≤ l.slot;
}
