use Rattle.std.proofs.Common.{◌≤◌}
use Rattle.pm_layout.specs.Geometry.{first_data}
use Rattle.image_keep.proofs.Freed.{IsFreeTo}
use Rattle.image_keep.proofs.free.free_pages.Given as goal

abbrev pub invariant-loop-page : goal.invariant-loop-page
invariant-loop-page l = IsFreeTo l.in_logs l.mapped (first_data l.g) l.g.pages l.page l.set × (first_data l.g ≤ l.page)
