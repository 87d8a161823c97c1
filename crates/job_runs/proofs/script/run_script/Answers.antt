use Rattle.std.proofs.Common.{◌∙◌, ◌++◌, ◌∷◌, [], List, take, drop, sym, ap, subst}
use Rattle.std.proofs.lemmas.List.{take_more, take-append-drop}
use Rattle.std.proofs.lemmas.Result.{err_from_is_err_and}
use Rattle.dn_model.specs.declared.op.Op.{Op}
use Rattle.job_runs.specs.Reaching.{RunsAll}
use Rattle.job_runs.proofs.Onward.{reach_none, reach_then, steady_none, steady_then, all_none, all_next, ends_since}
use Rattle.job_runs.proofs.script.run_script.Goals as goal

pub loop-op-init : goal.loop-op-init
loop-op-init g c = record {
  agrees = c.requires.agrees;
  reaches = reach_none g.D.Pm.state g.F.Fingerprint.print c.args.v.now;
  loose = c.requires.loose;
  steady = steady_none g.D.Pm.state c.args.v.now;
  all = all_none c.args.who c.args.v.now.parts.history.items;
}

pub loop-op-preserved : goal.loop-op-preserved
loop-op-preserved g c =
    let was = c.loop-op.invariant in
    let ran = c.in_ok-run_op.ensures.runs in
    let item = c.op-item.result in
    let more = take_more c.args.ops.now c.loop-op.op-index item c.loop-op-test.true
    ∙ ap (λ (x : Op). take c.loop-op.op-index c.args.ops.now ++ x ∷ []) (sym c.op-item.is) in
    record {
      agrees = c.in_ok-run_op.ensures.agrees;
      reaches = reach_then g.D.Pm.state g.F.Fingerprint.print c.args.v.now c.loop-op.v c.run_op.new.v was.reaches c.in_ok-run_op.ensures.reaches;
      loose = ran.0;
      steady = steady_then g.D.Pm.state c.args.v.now c.loop-op.v c.run_op.new.v was.steady ran.2;
      all = subst (λ (ops : List Op). RunsAll c.args.who ops c.args.v.now.parts.history.items c.run_op.new.v.parts.history.items) (sym more)
          (all_next c.args.who (take c.loop-op.op-index c.args.ops.now) item c.args.v.now.parts.history.items c.loop-op.v.parts.history.items
          c.run_op.new.v.parts.history.items was.all ran.1);
    }

pub returns-in_err-run_op-clause-reaches : goal.returns-in_err-run_op-clause-reaches
returns-in_err-run_op-clause-reaches g c =
    reach_then g.D.Pm.state g.F.Fingerprint.print c.args.v.now c.loop-op.v c.run_op.new.v c.loop-op.invariant.reaches c.run_op.ensures.reaches

pub returns-in_err-run_op-clause-runs : goal.returns-in_err-run_op-clause-runs
returns-in_err-run_op-clause-runs g c =
    let p = err_from_is_err_and c.from_residual.result c.from_residual.ensures.1 in
    let was = c.loop-op.invariant in
    rw (p.1, p.2) (ends_since g.D.Pm.state c.args.who c.args.ops.now (take c.loop-op.op-index c.args.ops.now) (drop c.loop-op.op-index c.args.ops.now)
    c.op-item.result c.args.v.now c.loop-op.v c.run_op.new.v (sym (take-append-drop c.loop-op.op-index c.args.ops.now)) was.all was.steady
    c.in_err-run_op.field-0.0 c.in_err-run_op.ensures.runs)
