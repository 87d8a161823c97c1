-- What a stop leaves, but for what operations in flight await: so that a device without any is
-- still.
use Rattle.std.specs.Prelude.{◌⊎◌, ℕ, ◌<◌, length}
use Rattle.pm_device.specs.State.{State}
use Rattle.pm_device.specs.Settled.{IsSettled, IsFlushed}
use Rattle.dn_volume.specs.declared.flight.Flight.{Flight}
use Rattle.dn_volume.specs.declared.volume.Parts.{Parts}
use Rattle.dn_volume.specs.Parties.{Flies}

-- a client with an operation in flight has flushed the word
pub record IsAwaitedBy (b : Parts) (s : State) (who a : ℕ) : Type 0 where
  pub flight : Flight
  pub flies : Flies b who flight
  pub flushed : IsFlushed who s a

pub record IsAwaited (b : Parts) (s : State) (a : ℕ) : Type 0 where
  pub who : ℕ
  pub by : IsAwaitedBy b s who a

-- each word is settled, or some client's next fence settles it
pub record IsStillBut (b : Parts) (s : State) : Type 0 where
  pub each : (a : ℕ) → a < length s.now → IsSettled s a ⊎ IsAwaited b s a
