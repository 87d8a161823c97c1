-- What is known of the scripts of a job.
use Rattle.dn_script.specs.declared.job.Job.{Job}
use Rattle.dn_script.specs.declared.line.JobForm.{JobForm}
use Rattle.dn_script.specs.declared.line.JobForm.TheVariants.{Apply}
use Rattle.dn_script.specs.Formed.{IsJob}
use Rattle.job_runs.specs.Scripts.{Rises, IsAlone}
use Rattle.job_texts.specs.Plan.{scripts_in}

-- the numbers of its clients rise
abbrev pub JobsRise : Type 0
JobsRise = (form : JobForm) (job : Job) → IsJob form job → Rises 0 (scripts_in job.clients)

-- a job of the form of one client has no other
abbrev pub JobsAreAlone : Type 0
JobsAreAlone = (job : Job) → IsJob Apply job → IsAlone (scripts_in job.clients)
