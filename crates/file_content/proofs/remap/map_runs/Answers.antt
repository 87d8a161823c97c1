use Rattle.file_content.proofs.Remapping.{maps-next, maps-all}
use Rattle.file_content.proofs.remap.map_runs.Goals as goal

pub loop-j-preserved : goal.loop-j-preserved
loop-j-preserved c =
    maps-next c.args.tail c.args.fresh.now c.args.runs.now c.loop-j.j c.args.map.now c.loop-j.map c.map_run.new.map c.loop-j-test.true
    c.loop-j.invariant c.slot_after.result c.slot_after.ensures c.map_run.ensures

pub returns-clause-file : goal.returns-clause-file
returns-clause-file c = maps-all c.args.tail c.args.fresh.now c.args.runs.now c.loop-j.j c.args.map.now c.loop-j.map c.loop-j.invariant
    c.loop-j-test.false
