-- A job that was read, as it is run.
use Rattle.std.specs.Prelude.{◌≡◌, Ok}
use Rattle.dn_script.specs.Formed.{IsJob}
use Rattle.dn_script.specs.declared.job.Job.{Job}
use Rattle.dn_script.specs.declared.line.JobForm.{JobForm}
use Rattle.dn_script.specs.declared.line.JobForm.TheVariants.{Apply}
use Rattle.call_endings.specs.Call.{Input}
use Rattle.job_runs.specs.Scripts.{Rises, IsAlone}
use Rattle.job_runs.specs.declared.plan.Order.{Order}
use Rattle.job_runs.specs.declared.plan.Order.TheVariants.{Alone, InTurns, WithRest}
use Rattle.job_texts.specs.Plan.{scripts_in, line_numbers_in}
use Rattle.job_texts.specs.declared.plan.JobPlan.{JobPlan}
use Rattle.denova_calls.specs.RunEnds.{HasRead}

-- what is read is a job of the form, and this is its plan
pub record HasPlan (form : JobForm) (input : Input) (plan : JobPlan) : Type 0 where
  pub job : Job
  pub formed : IsJob form job
  pub read : HasRead form input (Ok job)
  pub scripts : plan.scripts ≡ scripts_in job.clients
  pub numbers : plan.numbers ≡ line_numbers_in job.clients
  pub turns : plan.turns.items ≡ job.turns
  pub rises : Rises 0 plan.scripts
  pub alone : form ≡ Apply → IsAlone plan.scripts

-- jobs of this form have scripts that suit this order
abbrev pub IsSuited : JobForm → Order → Type 0
IsSuited form Alone = form ≡ Apply
IsSuited form InTurns = Unit {0}
IsSuited form WithRest = form ≡ Apply
