use Rattle.std.proofs.Common.{◌≡◌, ◌+◌, ◌-◌}
use Rattle.law_clean.specs.Cleaned.{run_len}
use Rattle.clean_items.specs.Cleaning.{maps_still}
use Rattle.clean_items.proofs.parts.run_len.Given as goal

abbrev pub invariant-loop-k : goal.invariant-loop-k
invariant-loop-k l = run_len (maps_still l.places.map l.slot) l.idx l.n ≡ l.k + run_len (maps_still l.places.map l.slot) (l.idx + l.k) (l.n - l.k)
