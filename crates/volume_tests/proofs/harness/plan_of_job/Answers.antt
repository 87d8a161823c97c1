use Rattle.volume_tests.proofs.Planned.{rises, suits}
use Rattle.volume_tests.proofs.harness.plan_of_job.Goals as goal

pub returns-clause-rises : goal.returns-clause-rises
returns-clause-rises c = rises _ _ c.in_ok-plan.ensures.scripts _ c.in_ok-job.ensures.formed

pub returns-clause-suits : goal.returns-clause-suits
returns-clause-suits c = suits _ _ c.in_ok-plan.ensures.scripts _ _ c.form_of.ensures c.in_ok-job.ensures.formed
