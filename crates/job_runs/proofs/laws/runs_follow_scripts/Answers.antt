use Rattle.job_runs.proofs.Fronts.{plays_front, played_scripted, next_op_is, entries_of_clients}
use Rattle.job_runs.proofs.laws.runs_follow_scripts.Goals as goal

pub returns : goal.returns
returns c = record { fronts = plays_front; whole = played_scripted; next = next_op_is; clients = entries_of_clients }
