use Rattle.std.proofs.Common.{refl}
use Rattle.call_endings.specs.Call.{input_of}
use Rattle.dn_script.specs.declared.line.JobForm.TheVariants.{Run}
use Rattle.denova_calls.proofs.Plans.{job_read, fault_ends}
use Rattle.denova_session.specs.Ends.{in_job, in_run}
use Rattle.denova_session.proofs.run.run_job.Goals as goal

pub returns-in-Ok-clause-ends : goal.returns-in-Ok-clause-ends
returns-in-Ok-clause-ends g c =
    let S = g.S.Source in
    in_run c.in-Ok.job c.in-Ok.ensures.formed
    (job_read Run (input_of S.left S.faults c.args.input.now c.read_job.new.from) c.in-Ok.job c.in-Ok.ensures.answer) c.run_read.ensures.ends

pub returns-in-Err-clause-ends : goal.returns-in-Err-clause-ends
returns-in-Err-clause-ends g c =
    let S = g.S.Source in
    in_job refl (fault_ends Run (input_of S.left S.faults c.args.input.now c.read_job.new.from) c.in-Err.fault c.ending_of_fault.result
    c.in-Err.ensures.answer c.in-Err.ensures.cause c.ending_of_fault.ensures)
