use Rattle.std.proofs.Common.{◌≡◌, ◌-◌, ◌++◌}
use Rattle.dn_script.specs.Work.{ops_after, work_ops}
use Rattle.dn_script.proofs.work.generated.Given as goal

abbrev pub invariant-loop-made : goal.invariant-loop-made
invariant-loop-made l = l.ops.items ++ ops_after (l.fn.number - l._made) l.state ≡ work_ops l.fn.number
