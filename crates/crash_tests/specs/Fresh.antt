-- A volume that was just mounted.
use Rattle.std.specs.Prelude.{◌≡◌, false}
use Rattle.pm_device.specs.State.{State}
use Rattle.dn_volume.specs.declared.volume.Volume.{Volume}
use Rattle.dn_volume.specs.Agrees.{Agrees}
use Rattle.job_runs.specs.Reaching.{IsLoose}

-- it agrees with its device, and nothing is in flight or begun
pub record IsFresh {D F : Type 0} (state : D → State) (v : Volume D F) : Type 0 where
  pub agrees : Agrees state v
  pub loose : IsLoose v.parts
  pub running : v.parts.stopped ≡ false
