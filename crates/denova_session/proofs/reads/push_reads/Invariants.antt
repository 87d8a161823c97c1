use Rattle.std.proofs.Common.{◌≡◌, ◌++◌, take}
use Rattle.std.specs.Prelude.{map}
use Rattle.denova_session.specs.Reads.{read_of}
use Rattle.denova_session.proofs.reads.push_reads.Given as goal

abbrev pub invariant-loop-reading : goal.invariant-loop-reading
invariant-loop-reading l = l.all.items ≡ l.initial.all.items ++ map (read_of l.who) (take l.reading-index l.readings)
