use Rattle.std.proofs.Common.{◌≡◌, ℕ, ◌≤◌, length, map, take, get_or}
use Rattle.dn_volume.specs.Batches.{CopiedPage, with_print}
use Rattle.dn_volume.proofs.batch.hash_copies.Given as goal

abbrev pub invariant-loop-copy : goal.invariant-loop-copy
invariant-loop-copy g l = (take l.copy-index l.copies ≡ map (with_print g.F.Fingerprint.print) (take l.copy-index l.initial.copies))
    × ((k : ℕ) (e : CopiedPage) → l.copy-index ≤ k → get_or l.copies k e ≡ get_or l.initial.copies k e)
