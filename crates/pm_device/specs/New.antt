-- A device that was just made.
use Rattle.std.specs.Prelude.{◌≡◌, ℕ, List, [], Some}
use Rattle.pm_device.specs.State.{State}

-- these words are read and are durable, and nothing was called yet
pub record IsNew (words : List ℕ) (s : State) : Type 0 where
  pub now : s.now ≡ words
  pub past : s.past ≡ Some (record { first = words; calls = [] })
  pub faults : s.faults ≡ 0
