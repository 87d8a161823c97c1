-- Images between the disks of an event.
use Rattle.std.proofs.Common.{◌⊎◌, inl, inr, List, ℕ, refl}
use Rattle.pm_device.specs.State.{State}
use Rattle.pm_device.specs.Settled.{LeavesOnly}
use Rattle.pm_device.proofs.Moments.{leaves_only-weaken}
use Rattle.dn_model.specs.Disk.{Disk}
use Rattle.dn_model.specs.Image.{StandsFor}
use Rattle.dn_model.specs.Own.{Print, IsOwn}
use Rattle.dn_volume.specs.Events.{IsBetween}

-- images of the one disk or of the other are between them
pub old_or_new : (print : Print) (d e : Disk) (s t : State) → (IsOwn print d → IsOwn print e) → LeavesOnly s t (λ c. StandsFor c d ⊎ StandsFor c e)
    → LeavesOnly s t (IsBetween print d e)
old_or_new print d e s t own leaves = leaves_only-weaken s t _ _ between leaves
  where
    between : (c : List ℕ) → StandsFor c d ⊎ StandsFor c e → IsBetween print d e c
    between c (inl old) = record { disk = d; stands_for = old; own = λ is. is; same = inl (λ name. refl) }
    between c (inr new) = record { disk = e; stands_for = new; own = own; same = inr (λ name. refl) }
