use Rattle.std.proofs.Common.{sym, subst}
use Rattle.std.specs.Prelude.{Err}
use Rattle.dn_volume.specs.Sound.{Sound}
use Rattle.job_runs.specs.declared.script.RunFault.TheVariants as run_fault
use Rattle.thread_runs.specs.Threads.{EndsThreads}
use Rattle.thread_runs.proofs.Ending.{ends_none}
use Rattle.thread_runs.proofs.running.run_in_threads.Goals as goal

pub returns-in_default-clause-ends : goal.returns-in_default-clause-ends
returns-in_default-clause-ends g c = ends_none g.D.Pm.state c.args.clients.now c.args.volume c.requires.new

pub returns-in-Ok-open-clause-keeps : goal.returns-in-Ok-open-clause-keeps
returns-in-Ok-open-clause-keeps g c base sound = c.run_shared.ensures.keeps base
    (subst (λ v. Sound g.D.Pm.state g.F.Fingerprint.print base v) (sym c.in-Ok-open.ensures.board.volume_is) sound)

pub returns-in-Err-clause-ends : goal.returns-in-Err-clause-ends
returns-in-Err-clause-ends g c = subst (λ v. EndsThreads g.D.Pm.state c.args.clients.now c.args.volume v (Err run_fault.NoMemory))
    (sym c.in-Err.ensures.err) (ends_none g.D.Pm.state c.args.clients.now c.args.volume c.requires.new)
