use Rattle.std.proofs.Common.{arith}
use Rattle.pm_device.proofs.Only.{stores_only-then}
use Rattle.recovery.proofs.Making.{has_parts, some_tables}
use Rattle.recovery.proofs.tables.make_parts.Goals as goal

pub returns-clause-only : goal.returns-clause-only
returns-clause-only g c = let S = g.D.Pm.state in stores_only-then _ (S c.args.device.now) (S c.make_head.new.device) (S c.make_tables.new.device)
    c.make_head.ensures.only c.make_tables.ensures.only

pub returns-clause-made : goal.returns-clause-made
returns-clause-made g c = let S = g.D.Pm.state in has_parts c.args.g.now (S c.args.device.now).now (S c.make_head.new.device).now
    (S c.make_tables.new.device).now c.make_head.ensures.made c.make_tables.ensures.made

pub make_head-requires-clause-room : goal.make_head-requires-clause-room
make_head-requires-clause-room g c = omega (arith, c.requires.room, some_tables c.args.g.now c.requires.accepted.inodes)
