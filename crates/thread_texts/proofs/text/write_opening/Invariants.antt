use Rattle.std.proofs.Common.{◌≡◌, ◌++◌}
use Rattle.std.specs.Prelude.{slice_index}
use Rattle.std.specs.List.{flat_map, range_with_len}
use Rattle.thread_texts.specs.Texts.{row_line}
use Rattle.thread_texts.proofs.text.write_opening.Given as goal

abbrev pub invariant-loop-slot : goal.invariant-loop-slot
invariant-loop-slot l = l.text.items ≡ l.initial.text.items ++ flat_map (λ k. row_line k (slice_index l.words k)) (range_with_len 0 l.slot)
