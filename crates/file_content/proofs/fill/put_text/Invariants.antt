use Rattle.file_content.specs.PutLoop.{PutsBelow}
use Rattle.file_content.proofs.fill.put_text.Given as goal

abbrev pub invariant-loop-k : goal.invariant-loop-k
invariant-loop-k l = PutsBelow l.k l.start l.at l.text l.fn.page l.page
