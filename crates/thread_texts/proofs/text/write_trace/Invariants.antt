use Rattle.std.proofs.Common.{◌≡◌, ◌++◌, take}
use Rattle.std.specs.List.{flat_map}
use Rattle.thread_texts.specs.Texts.{change_line}
use Rattle.thread_texts.proofs.text.write_trace.Given as goal

abbrev pub invariant-loop-change : goal.invariant-loop-change
invariant-loop-change l = l.text.items ≡ l.initial.text.items ++ flat_map change_line (take l.change-index l.trace)
