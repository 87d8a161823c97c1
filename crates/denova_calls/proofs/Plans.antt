-- Plans of jobs.
use Rattle.std.proofs.Common.{◌≡◌, ◌⊎◌, ⊎_elim, ℕ, List, Option, Some, None, IfSome, Result, Ok, Err, sym, subst}
use Rattle.pm_device.specs.State.{Rose}
use Rattle.dn_script.specs.Job.{job_of, Answers, FailsBy}
use Rattle.dn_script.specs.Formed.{IsJob}
use Rattle.dn_script.specs.declared.job.Job.{Job}
use Rattle.dn_script.specs.declared.job.JobFault.{JobFault}
use Rattle.dn_script.specs.declared.job.JobFault.TheVariants.{ReadFault, TooLong, BadLine, BadTurn}
use Rattle.dn_script.specs.declared.line.JobForm.{JobForm}
use Rattle.dn_model.specs.declared.op.Op.{Op}
use Rattle.call_endings.specs.Call.{Input}
use Rattle.call_endings.specs.declared.ending.Ending.{Ending}
use Rattle.call_endings.specs.declared.ending.Ending.TheVariants as ending
use Rattle.job_runs.specs.Scripts.{Rises, IsAlone}
use Rattle.job_texts.specs.Plan.{scripts_in, line_numbers_in}
use Rattle.job_texts.specs.declared.plan.JobPlan.{JobPlan}
use Rattle.job_texts.proofs.Planned.{jobs_rise, jobs_alone}
use Rattle.denova_calls.specs.RunEnds.{HasRead, JobEnds}
use Rattle.denova_calls.specs.Plans.{HasPlan}
use Rattle.denova_calls.specs.RunSteps.{FaultEnds}

-- a told text, read
mapped : {A : Type 0} (o : Option A) (P Q : A → Type 0) → ((x : A) → P x → Q x) → IfSome o P → IfSome o Q
mapped (Some x) P Q f p = f x p
mapped None P Q f p = tt

module _ (form : JobForm) (input : Input) where
  -- what a reader answers of the text that a source tells
  abbrev pub HasAnswer : Result Job JobFault → Type 0
  HasAnswer answer = IfSome input.left (λ text. (answer ≡ Err ReadFault) ⊎ Answers answer (job_of form text))

  pub job_read : (job : Job) → HasAnswer (Ok job) → HasRead form input (Ok job)
  job_read job answer =
      mapped input.left (λ text. (Ok job ≡ Err ReadFault) ⊎ Answers (Ok job) (job_of form text)) (λ text. job_of form text ≡ Ok job)
      (λ text said. ⊎_elim (λ (failed : ◌≡◌ {A = Result Job JobFault} (Ok job) (Err ReadFault)). absurd (cc)) (λ good. good) said) answer

  -- the plan of a job that was read
  pub has_plan : (job : Job) (plan : JobPlan) → IsJob form job → HasAnswer (Ok job) → plan.scripts ≡ scripts_in job.clients
      → plan.numbers ≡ line_numbers_in job.clients → plan.turns.items ≡ job.turns
      → HasPlan form input plan
  has_plan job plan formed answer scripts numbers turns = record {
    job = job;
    formed = formed;
    read = job_read job answer;
    scripts = scripts;
    numbers = numbers;
    turns = turns;
    rises = subst (λ (x : List (ℕ × List Op)). Rises 0 x) (sym scripts) (jobs_rise form job formed);
    alone = λ is. subst (λ (x : List (ℕ × List Op)). IsAlone x) (sym scripts)
        (jobs_alone job (subst (λ (f : JobForm). IsJob f job) is formed));
  }

  job_fails : (fault : JobFault) → (fault ≡ ReadFault → ⊥) → ((text : List ℕ) → FailsBy fault (job_of form text) → job_of form text ≡ Err fault)
      → HasAnswer (Err fault)
      → HasRead form input (Err fault)
  job_fails fault other is answer =
      mapped input.left (λ text. (Err fault ≡ Err ReadFault) ⊎ Answers (Err fault) (job_of form text)) (λ text. job_of form text ≡ Err fault)
      (λ text said. ⊎_elim (λ (failed : ◌≡◌ {A = Result Job JobFault} (Err fault) (Err ReadFault)). absurd (other (cc))) (λ bad. is text bad) said)
      answer

  -- how a call ends whose job has a fault
  pub fault_ends : (fault : JobFault) (e : Ending) → HasAnswer (Err fault)
      → (◌≡◌ {A = Result Job JobFault} (Err fault) (Err ReadFault) → Rose input.faults_before input.faults_after) → FaultEnds fault e
      → JobEnds form input e
  fault_ends fault (ending.BadLine text) answer cause ends = (
    ends.0,
    job_fails (BadLine ends.0) (λ e. absurd (cc)) (λ text bad. bad)
        (subst (λ (f : JobFault). HasAnswer (Err f)) ends.1 answer),
    ends.2,
  )
  fault_ends fault (ending.BadTurn text) answer cause ends = (
    ends.0,
    job_fails (BadTurn ends.0) (λ e. absurd (cc)) (λ text bad. bad)
        (subst (λ (f : JobFault). HasAnswer (Err f)) ends.1 answer),
    ends.2,
  )
  fault_ends fault ending.TooLong answer cause ends =
      job_fails TooLong (λ e. absurd (cc)) (λ text bad. bad) (subst (λ (f : JobFault). HasAnswer (Err f)) ends answer)
  fault_ends fault ending.Unread answer cause ends = cause (cc)
  fault_ends fault ending.NoMemory answer cause ends = tt
  fault_ends fault e answer cause ends = absurd ends
