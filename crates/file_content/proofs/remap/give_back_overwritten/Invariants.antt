use Rattle.file_content.specs.Overwritten.{GivesBlocks}
use Rattle.file_content.proofs.remap.give_back_overwritten.Given as goal

abbrev pub invariant-loop-i : goal.invariant-loop-i
invariant-loop-i l = GivesBlocks l.map.map l.first l.i l.fn.free l.free
