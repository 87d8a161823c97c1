-- The plan of a job is one that its order can run.
use Rattle.std.proofs.Common.{◌≡◌, ℕ, List, sym, subst}
use Rattle.dn_model.specs.declared.op.Op.{Op}
use Rattle.dn_script.specs.declared.job.Job.{Job}
use Rattle.dn_script.specs.declared.line.JobForm.{JobForm}
use Rattle.dn_script.specs.Formed.{IsJob}
use Rattle.job_runs.specs.Scripts.{Rises, Suits}
use Rattle.job_runs.specs.declared.plan.Order.{Order}
use Rattle.job_runs.specs.declared.plan.Order.TheVariants.{Alone, InTurns, WithRest}
use Rattle.job_texts.specs.Plan.{scripts_in}
use Rattle.job_texts.proofs.Planned.{jobs_rise, jobs_alone}
use Rattle.volume_tests.specs.Forms.{form_of}

module _ (job : Job) (scripts : List (ℕ × List Op)) (same : scripts ≡ scripts_in job.clients) where
  pub rises : (form : JobForm) → IsJob form job → Rises 0 scripts
  rises form is = subst (λ (x : List (ℕ × List Op)). Rises 0 x) (sym same) (jobs_rise form job is)

  suits_in : (order : Order) → IsJob (form_of order) job → Suits order (scripts_in job.clients)
  suits_in Alone is = jobs_alone job is
  suits_in InTurns is = tt
  suits_in WithRest is = jobs_alone job is

  pub suits : (form : JobForm) (order : Order) → form ≡ form_of order → IsJob form job → Suits order scripts
  suits form order is job_is =
      subst (λ (x : List (ℕ × List Op)). Suits order x) (sym same) (suits_in order (subst (λ (f : JobForm). IsJob f job) is job_is))
