use Rattle.std.proofs.Common.{subst}
use Rattle.name_ops.specs.Finding.{IsFound}
use Rattle.name_ops.proofs.Aimed.{found_room}
use Rattle.name_ops.proofs.found.find_room.Goals as goal

pub returns-in-Files : goal.returns-in-Files
returns-in-Files g c = λ d volume. found_room d c.args.v.now.parts (g.D.Pm.state c.args.v.now.device) volume c.args.op.now c.args.pages
    c.reserve_of.result c.in-Files.ino c.in-Files.other (subst (IsFound d c.args.v.now.parts c.args.op.now) c.in-Files.is (c.requires.found d volume))
    (c.requires.needs d volume) c.reserve_of.ensures c.look_at_room.result c.look_at_room.ensures
