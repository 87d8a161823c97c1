use Rattle.dn_model.specs.Disk.{Disk}
use Rattle.dn_volume.specs.Agrees.{IsVolume}
use Rattle.job_texts.proofs.Marked.{MarksBelow}
use Rattle.job_texts.proofs.counting.mapped_pages.Given as goal

abbrev pub invariant-loop-node : goal.invariant-loop-node
invariant-loop-node g l = (d : Disk) → IsVolume d l.v.parts (g.D.Pm.state l.v.device) → MarksBelow d l.node-index l.marks.items
