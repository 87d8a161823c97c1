use Rattle.thread_runs.proofs.Tasks.{last_is}
use Rattle.thread_runs.proofs.running.last_number.Goals as goal

pub returns-in-Some-clause-few : goal.returns-in-Some-clause-few
returns-in-Some-clause-few c = (last_is c.args.clients.now c.in-Some.field-0.now c.in-Some.ensures.value c.requires).1

pub returns-in-Some-clause-last : goal.returns-in-Some-clause-last
returns-in-Some-clause-last c = (last_is c.args.clients.now c.in-Some.field-0.now c.in-Some.ensures.value c.requires).0
