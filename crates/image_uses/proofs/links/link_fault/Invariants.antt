use Rattle.image_uses.specs.Links.{AllLinked}
use Rattle.image_uses.proofs.links.link_fault.Given as goal

abbrev pub invariant-loop-ino : goal.invariant-loop-ino
invariant-loop-ino g l = AllLinked (g.D.Pm.state l.device).now l.links.items l.ino
