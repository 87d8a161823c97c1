-- Changes of one kind, one after another.
use Rattle.std.proofs.Common.{◌≡◌, ℕ, ◌*◌, List, length, arith}
use Rattle.pm_device.specs.State.{State, Agree}
use Rattle.pm_device.specs.Settled.{LeavesOnly}
use Rattle.pm_device.specs.Reading.{Stands}
use Rattle.pm_device.proofs.Layers.{leaves_only-then}
use Rattle.pm_device.proofs.Moments.{leaves_only-weaken}
use Rattle.pm_device.proofs.Only.{stores_only-none}
use Rattle.dn_model.specs.Disk.{Disk, DiskSays}
use Rattle.dn_model.specs.Image.{StandsFor}
use Rattle.dn_model.specs.Valid.{IsValid}
use Rattle.law_table_on_disk.proofs.OneWord.{unread_images}
use Rattle.table_repair.specs.Later.{HasLater}

module _ (R : Disk → Disk → Type 0) where
  -- where nothing is stored each image stands for the disk
  pub leaves_none : (d : Disk) (s : State) → R d d → IsValid d → Stands (DiskSays d) s → Agree s.now s.past → length s.now ≡ 512 * d.geometry.pages
      → LeavesOnly s s (HasLater R d)
  leaves_none d s here valid stands agree size =
      leaves_only-weaken s s (λ c. StandsFor c d) (HasLater R d) (λ c for. record { disk = d; stands_for = for; is = here })
      (unread_images d 0 0 (λ a v told h. omega (arith, h.0, h.1)) s s (stores_only-none _ s agree) stands valid agree size)

  -- more changes after those that led from d to e
  module _ (follow : (d e f : Disk) → R d e → R e f → R d f) (d e : Disk) (is : R d e) where
    pub later_then : (c : List ℕ) → HasLater R e c → HasLater R d c
    later_then c has = record { disk = has.disk; stands_for = has.stands_for; is = follow d e has.disk is has.is }

    pub leaves_then : (s t u : State) → LeavesOnly s t (HasLater R d) → LeavesOnly t u (HasLater R e) → LeavesOnly s u (HasLater R d)
    leaves_then s t u first next = leaves_only-then s t u (HasLater R d) first (leaves_only-weaken t u (HasLater R e) (HasLater R d) later_then next)
