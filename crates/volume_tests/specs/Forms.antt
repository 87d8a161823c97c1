-- Jobs for the orders in which scripts are run.
use Rattle.dn_script.specs.declared.line.JobForm.{JobForm}
use Rattle.dn_script.specs.declared.line.JobForm.TheVariants.{Apply, Replay}
use Rattle.job_runs.specs.declared.plan.Order.{Order}
use Rattle.job_runs.specs.declared.plan.Order.TheVariants.{Alone, InTurns, WithRest}

-- the form of a job that is run in this order
abbrev pub form_of : Order → JobForm
form_of Alone = Apply
form_of InTurns = Replay
form_of WithRest = Apply
