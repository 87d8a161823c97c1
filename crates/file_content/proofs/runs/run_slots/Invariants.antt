use Rattle.file_content.specs.SlotLoop.{SpellsTo}
use Rattle.file_content.proofs.runs.run_slots.Given as goal

abbrev pub invariant-loop-run : goal.invariant-loop-run
invariant-loop-run l = SpellsTo l.size l.runs l.run-index l.slots.items
