use Rattle.std.proofs.Common.{◌≡◌, ◌++◌, take}
use Rattle.std.specs.List.{flat_map}
use Rattle.thread_texts.specs.Texts.{read_line}
use Rattle.thread_texts.proofs.text.write_reads.Given as goal

abbrev pub invariant-loop-read : goal.invariant-loop-read
invariant-loop-read l = l.text.items ≡ l.initial.text.items ++ flat_map read_line (take l.read-index l.reads)
