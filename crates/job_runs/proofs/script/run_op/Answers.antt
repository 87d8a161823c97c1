use Rattle.std.proofs.Common.{Bool, subst}
use Rattle.std.specs.Prelude.{Ok}
use Rattle.job_runs.specs.Reaching.{BeginsOp}
use Rattle.job_runs.proofs.Onward.{reach_then, runs_since}
use Rattle.job_runs.proofs.script.run_op.Goals as goal

pub returns-then-branch-clause-reaches : goal.returns-then-branch-clause-reaches
returns-then-branch-clause-reaches g c =
    reach_then g.D.Pm.state g.F.Fingerprint.print c.args.v.now c.begin_op.new.v c.finish_op.new.v c.begin_op.ensures.reaches
    c.finish_op.ensures.reaches

pub returns-then-branch-clause-runs : goal.returns-then-branch-clause-runs
returns-then-branch-clause-runs g c =
    let begun = subst (λ (b : Bool). BeginsOp g.D.Pm.state c.args.who c.args.op.now c.args.v.now c.begin_op.new.v (Ok b)) c.if-branch.true
    c.in_ok-begin_op.ensures.begins in
    runs_since g.D.Pm.state c.args.who c.args.op.now c.args.v.now c.begin_op.new.v c.finish_op.new.v begun.1 begun.2 c.finish_op.result
    c.finish_op.ensures.runs
