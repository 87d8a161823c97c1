use Rattle.std.proofs.Common.{◌≡◌}
use Rattle.dn_script.specs.Job.{lines_of, others_of}
use Rattle.dn_script.proofs.draft.split_client.Given as goal

abbrev pub invariant-loop-who : goal.invariant-loop-who
invariant-loop-who l = record {
  own : l.own.items ≡ lines_of l.number l.yielded;
  others : l.others.items ≡ others_of l.number l.yielded;
}
