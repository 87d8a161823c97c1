use Rattle.name_ops.proofs.RootLog.{one_page, no_page}
use Rattle.name_ops.proofs.opening.pages_for.Goals as goal

pub returns-then-room-slots-clause-needs : goal.returns-then-room-slots-clause-needs
returns-then-room-slots-clause-needs g c = λ d volume. one_page d c.args.v.now.parts (g.D.Pm.state c.args.v.now.device) volume
    c.read_field.result c.room_of-room.result c.read_field.ensures c.room_of-room.ensures.room c.args.slots c.if-room-slots.true

pub returns-else-room-slots-clause-needs : goal.returns-else-room-slots-clause-needs
returns-else-room-slots-clause-needs g c = λ d volume. no_page d c.args.v.now.parts (g.D.Pm.state c.args.v.now.device) volume
    c.read_field.result c.room_of-room.result c.read_field.ensures c.room_of-room.ensures.room c.args.slots c.if-room-slots.false
