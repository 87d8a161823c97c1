use Rattle.job_texts.proofs.Planned.{jobs_rise, jobs_alone}
use Rattle.job_texts.proofs.laws.jobs_are_scripts.Goals as goal

pub returns-clause-rise : goal.returns-clause-rise
returns-clause-rise c = jobs_rise

pub returns-clause-alone : goal.returns-clause-alone
returns-clause-alone c = jobs_alone
