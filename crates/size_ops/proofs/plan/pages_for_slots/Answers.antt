use Rattle.size_ops.proofs.Planned.{grows_one, grows_none}
use Rattle.size_ops.proofs.plan.pages_for_slots.Goals as goal

pub returns-then-room_of-slots-clause-pages : goal.returns-then-room_of-slots-clause-pages
returns-then-room_of-slots-clause-pages c = λ g log paged is. grows_one log c.room_of.result c.args.slots (c.room_of.ensures.room g log paged is)
    c.if-room_of-slots.true

pub returns-else-room_of-slots-clause-pages : goal.returns-else-room_of-slots-clause-pages
returns-else-room_of-slots-clause-pages c = λ g log paged is. grows_none log c.room_of.result c.args.slots (c.room_of.ensures.room g log paged is)
    c.if-room_of-slots.false
