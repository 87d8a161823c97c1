use Rattle.std.proofs.Common.{◌≡◌, ℕ, ◌<◌, false}
use Rattle.dn_volume.specs.Cleans.{may_clean}
use Rattle.log_clean.proofs.worth.first_worth.Given as goal

abbrev pub invariant-loop-i : goal.invariant-loop-i
invariant-loop-i l = (k : ℕ) → k < l.i → may_clean l.parts k ≡ false
