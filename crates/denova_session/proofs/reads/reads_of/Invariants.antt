use Rattle.std.proofs.Common.{◌≡◌, take}
use Rattle.denova_session.specs.Reads.{reads_of}
use Rattle.denova_session.proofs.reads.reads_of.Given as goal

abbrev pub invariant-loop-client : goal.invariant-loop-client
invariant-loop-client l = l.all.items ≡ reads_of (take l.client-index l.clients)
