use Rattle.std.proofs.Common.{◌≤◌}
use Rattle.std.specs.Prelude.{slice_index}
use Rattle.image_uses.specs.UsesLoop.{CountsTo}
use Rattle.image_uses.proofs.counts.mapped_count.Given as goal

abbrev pub invariant-loop-page : goal.invariant-loop-page
invariant-loop-page l = CountsTo (λ page. 1 ≤ slice_index l.mapped page) l.page l.count
