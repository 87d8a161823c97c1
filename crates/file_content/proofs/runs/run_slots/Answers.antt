use Rattle.file_content.proofs.Spelling.{run_spelled}
use Rattle.file_content.proofs.runs.run_slots.Goals as goal

pub write_item-requires : goal.write_item-requires
write_item-requires c = run_spelled c.args.size c.args.runs.now c.loop-run.run-index c.requires c.loop-run-test.true
