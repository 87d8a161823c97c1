use Rattle.std.proofs.Common.{refl}
use Rattle.data_begins.proofs.OnlyRoom.{only_places, only_both}
use Rattle.data_begins.proofs.ready.make_ready.Goals as goal

pub returns-then-not-make_place_room-clause-makes : goal.returns-then-not-make_place_room-clause-makes
returns-then-not-make_place_room-clause-makes g c = only_places g.D.Pm.state c.args.v.now
    (record { device = c.args.v.now.device; print = c.args.v.now.print; kept = c.args.v.now.kept; parts = c.make_place_room.new.parts }) refl c.make_place_room.ensures.makes

pub returns-then-not-make_room-clause-makes : goal.returns-then-not-make_room-clause-makes
returns-then-not-make_room-clause-makes g c = only_both g.D.Pm.state c.args.v.now
    (record { device = c.args.v.now.device; print = c.args.v.now.print; kept = c.args.v.now.kept; parts = c.make_place_room.new.parts }) refl c.make_place_room.ensures.makes
    c.make_room.new.v c.make_room.ensures.device c.make_room.ensures.spare c.make_room.ensures.makes

pub returns-clause-makes : goal.returns-clause-makes
returns-clause-makes g c = only_both g.D.Pm.state c.args.v.now
    (record { device = c.args.v.now.device; print = c.args.v.now.print; kept = c.args.v.now.kept; parts = c.make_place_room.new.parts }) refl c.make_place_room.ensures.makes
    c.make_room.new.v c.make_room.ensures.device c.make_room.ensures.spare c.make_room.ensures.makes
