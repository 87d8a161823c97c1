use Rattle.image_tests.proofs.FirstLog.{data_6}
use Rattle.image_tests.proofs.growth.set_first.Goals as goal

pub set_flag-requires-clause-slot : goal.set_flag-requires-clause-slot
set_flag-requires-clause-slot c = data_6 c.args.g.now c.requires.pages c.requires.inodes

pub set_mask-requires-clause-slot : goal.set_mask-requires-clause-slot
set_mask-requires-clause-slot c = data_6 c.args.g.now c.requires.pages c.requires.inodes
