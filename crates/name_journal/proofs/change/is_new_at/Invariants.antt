use Rattle.std.proofs.Common.{◌≢◌, ◌<◌, ℕ}
use Rattle.name_journal.specs.Changes.{address}
use Rattle.name_journal.proofs.change.is_new_at.Given as goal

abbrev pub invariant-loop-j : goal.invariant-loop-j
invariant-loop-j l = (k : ℕ) → k < l.j → address l.changes k ≢ address l.changes l.i
