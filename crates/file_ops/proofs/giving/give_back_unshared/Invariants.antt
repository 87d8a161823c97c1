use Rattle.fact_table.specs.Table.{IsTable}
use Rattle.dn_model.specs.Disk.{Disk}
use Rattle.file_ops.specs.Giving.{Gives, IsUnsharedAmong}
use Rattle.file_ops.proofs.giving.give_back_unshared.Given as goal

abbrev pub invariant-loop-i : goal.invariant-loop-i
invariant-loop-i g l = (d : Disk) → IsTable d (g.D.Pm.state l.device).now l.fact → Gives (IsUnsharedAmong d l.map.map l.first l.i) l.fn.free l.free
