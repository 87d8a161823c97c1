use Rattle.image_uses.specs.Links.{CountsNames}
use Rattle.image_uses.proofs.links.link_counts.Given as goal

abbrev pub invariant-loop-k : goal.invariant-loop-k
invariant-loop-k l = CountsNames l.entries l.k l.g.inodes l.links.items
