use Rattle.std.proofs.Common.{ℕ, List, sym, subst}
use Rattle.dn_script.specs.declared.job.Line.{Line}
use Rattle.dn_script.specs.declared.line.JobForm.TheVariants.{Run}
use Rattle.job_runs.specs.Scripts.{Rises}
use Rattle.job_texts.specs.Plan.{scripts_in}
use Rattle.job_texts.proofs.Planned.{jobs_rise}
use Rattle.denova_session.proofs.Ran.{no_run}
use Rattle.denova_session.proofs.run.run_read.Goals as goal

pub run_clients-requires-clause-clients : goal.run_clients-requires-clause-clients
run_clients-requires-clause-clients g c κs within =
    subst (λ (cs : List (ℕ × List Line)). Rises 0 (scripts_in cs)) (sym c.clients-clients.ensures) (jobs_rise Run c.args.job.now c.requires.formed)

pub returns-in-Err-clause-ends : goal.returns-in-Err-clause-ends
returns-in-Err-clause-ends g c =
    let laws = g.met.D.Pm g.world.𝓛 g.world.𝓜 g.world.𝓡 ((λ s x. x), (λ x. x), (λ x. x), λ x. x) in
    no_run g.F.Fingerprint.print c.args.job.now.clients (g.D.Pm.state c.args.device) (laws.agree c.args.device) c.requires.still
