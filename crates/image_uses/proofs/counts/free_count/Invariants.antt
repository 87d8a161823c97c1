use Rattle.pm_layout.specs.Geometry.{first_data}
use Rattle.image_uses.specs.UsesLoop.{IsUnused, CountsTo}
use Rattle.image_uses.proofs.counts.free_count.Given as goal

abbrev pub invariant-loop-page : goal.invariant-loop-page
invariant-loop-page l = CountsTo (IsUnused l.in_logs l.mapped (first_data l.g)) l.page l.free
