use Rattle.std.proofs.Common.{◌≤◌, sym, subst, arith}
use Rattle.denova_runs.specs.declared.run.RunEnd.{RunEnd}
use Rattle.denova_runs.specs.Ran.{RunFails}
use Rattle.denova_runs.proofs.Ended.{end_tells, end_faults}
use Rattle.denova_runs.proofs.run.run_scripts.Goals as goal

pub returns-in-Err-clause-fails : goal.returns-in-Err-clause-fails
returns-in-Err-clause-fails g c = c.in-Err.ensures.fails c.args.scripts.now

pub returns-in-Ok-run_out-clause-run : goal.returns-in-Ok-run_out-clause-run
returns-in-Ok-run_out-clause-run g c = record {
  sound = c.in-Ok.ensures.sound;
  run = c.in-Ok-run_out.ensures.ends (g.D.Pm.state c.args.device) c.in-Ok.ensures.begun;
}

pub returns-in-Err-run_out-clause-fails : goal.returns-in-Err-run_out-clause-fails
returns-in-Err-run_out-clause-fails g c =
    let S = g.D.Pm.state in
    subst (λ (back : RunEnd × _). RunFails g.F.Fingerprint.print c.args.scripts.now (S c.args.device) (S back.1) back.0) (sym c.end_of.ensures)
    (end_tells S c.run_out.new.v g.F.Fingerprint.print c.args.order c.args.scripts.now c.args.turns.now (S c.args.device) c.in-Err-run_out.fault
    (c.in-Err-run_out.ensures.ends (S c.args.device) c.in-Ok.ensures.begun))

pub returns-in-Err-run_out-clause-faults : goal.returns-in-Err-run_out-clause-faults
returns-in-Err-run_out-clause-faults g c =
    let S = g.D.Pm.state in
    let first = c.in-Ok.ensures.faults in
    let next = c.in-Err-run_out.ensures.faults in
    subst (λ (back : RunEnd × _). (S c.args.device).faults ≤ (S back.1).faults) (sym c.end_of.ensures)
    (end_faults S c.run_out.new.v (S c.args.device).faults c.in-Err-run_out.fault (omega (arith, first, next)))

pub returns-in-Ok-run_out-clause-goes_on : goal.returns-in-Ok-run_out-clause-goes_on
returns-in-Ok-run_out-clause-goes_on g c = c.in-Ok-run_out.ensures.goes_on (g.D.Pm.state c.args.device) c.in-Ok.ensures.begun
