use Rattle.std.proofs.Common.{[]}
use Rattle.file_content.proofs.Appending.{appends-then}
use Rattle.file_content.proofs.read.read_range.Goals as goal

pub loop-from-preserved : goal.loop-from-preserved
loop-from-preserved g c = record {
  so_far = appends-then (g.D.Pm.state c.args.device.now).now c.args.map.now.map c.args.size c.args.start c.loop-from.from c.in_ok-from.from []
      c.loop-from.found.items c.push_part.new.found.items
      c.loop-from.invariant.so_far c.in_ok-from.ensures.part;
  within = c.in_ok-from.ensures.within;
}
