-- How far the slots of a `prepare` are stored.
use Rattle.std.specs.Prelude.{◌≡◌, ℕ, ◌+◌, ◌*◌, ◌≤◌, List, length}
use Rattle.pm_device.specs.State.{State}
use Rattle.pm_layout.specs.declared.Geometry.{Geometry}
use Rattle.dn_model.specs.Log.{Log, count}
use Rattle.inode_log.specs.Prepare.{IsToPrepare, IsPreparedTo}

-- k slots are stored, since s
pub record StoresSlots (g : Geometry) (who ino : ℕ) (slots : List (List ℕ)) (fresh : List ℕ)
    (s : State) (k tail used : ℕ) (t : State) : Type 0 where
  pub so_far : (old new : Log) → IsToPrepare g ino slots fresh old new s
      → IsPreparedTo who ino old new s (count old + k) tail used t
  pub same_size : length t.now ≡ length s.now
  pub spare : s.spare ≤ t.spare + 9 * (k + used)
  pub faults : s.faults ≤ t.faults
