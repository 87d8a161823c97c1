use Rattle.std.proofs.Common.{◌≡◌, ◌+◌, ◌≤◌, ◌++◌, take, vec_len, vec_capacity}
use Rattle.log_entry.specs.Spelling.{spelling}
use Rattle.log_entry.proofs.write.write_item.Given as goal

abbrev pub invariant-loop-slot : goal.invariant-loop-slot
invariant-loop-slot l = record {
  items : l.into.items ≡ l.fn.into.items ++ take l.slot (spelling l.item);
  len : vec_len l.into ≡ vec_len l.initial.into + l.slot;
  room : vec_len l.initial.into + l.slots ≤ vec_capacity l.into;
}
