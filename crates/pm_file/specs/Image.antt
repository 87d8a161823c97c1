-- A device that was just opened.
use Rattle.std.specs.Prelude.{◌≡◌, ◌%◌, ◌≤◌, length, None}
use Rattle.pm_device.specs.State.{State}

-- whole pages, a past that isn't told, and no faults yet
pub record IsOpened (s : State) : Type 0 where
  pub pages : length s.now % 512 ≡ 0
  pub some : 512 ≤ length s.now
  pub fits : length s.now ≤ 33554432
  pub past : s.past ≡ None
  pub faults : s.faults ≡ 0
