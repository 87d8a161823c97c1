use Rattle.log_clean.proofs.Cleanable.{slots_at_root, slots_of_file}
use Rattle.log_clean.proofs.worth.live_slots.Goals as goal

pub returns-then-ino-eq0 : goal.returns-then-ino-eq0
returns-then-ino-eq0 c = slots_at_root c.args.parts.now c.args.ino c.args.node.now c.root_slots.result c.if-ino-eq0.true c.root_slots.ensures.is

pub returns-else-ino-eq0 : goal.returns-else-ino-eq0
returns-else-ino-eq0 c = slots_of_file c.args.parts.now c.args.ino c.args.node.now c.file_slots.result c.if-ino-eq0.false c.file_slots.ensures.is
