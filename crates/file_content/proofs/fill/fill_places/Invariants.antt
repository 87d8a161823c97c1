use Rattle.file_content.specs.FillLoop.{FillsTo}
use Rattle.file_content.proofs.fill.fill_places.Given as goal

abbrev pub invariant-loop-i : goal.invariant-loop-i
invariant-loop-i g l = let S = g.D.Pm.state in FillsTo l.g l.who l.map.map l.size l.first l.at l.text l.blocks l.i (S l.fn.device) (S l.device)
