use Rattle.std.proofs.Common.{◌≡◌, drop}
use Rattle.thread_runs.specs.Parts.{lines_by}
use Rattle.thread_runs.proofs.client.run_own.Given as goal

abbrev pub invariant-loop-who : goal.invariant-loop-who
invariant-loop-who g l = record {
  pass : l.pass ≡ l.initial.pass;
  readings : l.readings ≡ l.initial.readings;
  lines : lines_by l.number (drop l.who-index l.clients) ≡ lines_by l.number l.clients;
}
