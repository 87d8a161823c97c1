-- Room was made for the next event.
use Rattle.std.specs.Prelude.{◌≡◌, ◌⊎◌, ◌+◌, ◌^◌, ◌<◌, ◌≤◌, vec_len, vec_capacity}
use Rattle.std.specs.VecDeque.{deque_len, deque_capacity}
use Rattle.pm_device.specs.State.{State, IsSame}
use Rattle.dn_volume.specs.declared.volume.Volume.{Volume}
use Rattle.count_events.specs.declared.release.TheConstants.{RELEASE_UNITS}

-- nothing else differs
pub record MakesRoom {D F : Type 0} (state : D → State) (w w' : Volume D F) : Type 0 where
  pub same : IsSame (state w.device) (state w'.device)
  pub parts : w'.parts ≡ record w.parts {
    trace = w'.parts.trace;
    reclaiming = record
        w.parts.reclaiming { releases = w'.parts.reclaiming.releases };
  }
  pub trace : w'.parts.trace.items ≡ w.parts.trace.items
  pub len : vec_len w'.parts.trace ≡ vec_len w.parts.trace
  pub capacity : vec_capacity w.parts.trace ≤ vec_capacity w'.parts.trace
  pub releases : w'.parts.reclaiming.releases.items ≡ w.parts.reclaiming.releases.items
  pub releases_len : deque_len w'.parts.reclaiming.releases ≡ deque_len w.parts.reclaiming.releases
  pub releases_capacity : deque_capacity w.parts.reclaiming.releases ≤ deque_capacity
      w'.parts.reclaiming.releases
  pub spare : ((state w'.device).spare ≡ (state w.device).spare)
      ⊎ (w.parts.owed.units ≤ (state w'.device).spare)

-- there is room for a release or the next event of a dying file
pub record HasRoomFor {D F : Type 0} (state : D → State) (w : Volume D F) : Type 0 where
  pub owed : w.parts.owed.units + RELEASE_UNITS < 2 ^ 64
  pub units : w.parts.owed.units + RELEASE_UNITS ≤ (state w.device).spare
  pub trace : vec_len w.parts.trace + w.parts.owed.trace + 1 ≤ vec_capacity w.parts.trace
  pub few : w.parts.owed.releases + 1 < 2 ^ 64
  pub releases : deque_len w.parts.reclaiming.releases + w.parts.owed.releases + 1 ≤ deque_capacity
      w.parts.reclaiming.releases
