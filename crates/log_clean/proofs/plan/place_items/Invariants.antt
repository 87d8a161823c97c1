use Rattle.std.proofs.Common.{◌≡◌, ◌≤◌, length}
use Rattle.std.specs.Prelude.{vec_len, vec_capacity}
use Rattle.log_clean.proofs.Planned.{IsPlacedTo}
use Rattle.log_clean.proofs.plan.place_items.Given as goal

abbrev pub invariant-loop-item : goal.invariant-loop-item
invariant-loop-item l = record {
  to : IsPlacedTo l.pages l.fn.items.items (length l.yielded) l.n l.all.items;
  room : length l.fn.items.items ≤ vec_capacity l.all;
  len : vec_len l.all ≡ length l.yielded;
}
