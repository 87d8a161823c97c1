use Rattle.std.proofs.Common.{◌≡◌, ℕ, ◌<◌, List}
use Rattle.std.specs.Prelude.{slice_get, Some}
use Rattle.dn_volume.specs.Batches.{CopiedPage, Serves}
use Rattle.dn_volume.proofs.batch.Batch.print_of.Given as goal

abbrev pub invariant-loop-copy : goal.invariant-loop-copy
invariant-loop-copy g l = (k : ℕ) (c : CopiedPage) (taken : List ℕ) → k < l.copy-index → slice_get l.copy-items k ≡ Some c
    → Serves l.page l.bytes taken c → ⊥
