-- How a device stays still, but for what operations in flight await.
use Rattle.std.specs.Prelude.{ℕ}
use Rattle.pm_device.specs.State.{State}
use Rattle.pm_device.specs.Settled.{FlushesAll, SettlesAll, Still}
use Rattle.dn_volume.specs.declared.flight.Flight.{Flight}
use Rattle.dn_volume.specs.declared.volume.Parts.{Parts}
use Rattle.dn_volume.specs.Parties.{Flies, SameOthers}
use Rattle.dn_volume.specs.Stills.{IsStillBut}

-- once no operation is in flight the device is still
abbrev pub StillWithoutFlights : Type 0
StillWithoutFlights = (b : Parts) (s : State) → IsStillBut b s
    → ((who : ℕ) (f : Flight) → Flies b who f → ⊥) → Still s

-- An event keeps it that flushes what it stores, and whose operation goes on; so does one that
-- settles what it stores.
abbrev pub StillFlushes : Type 0
StillFlushes = (who : ℕ) (f : Flight) (b b' : Parts) (s t : State) → FlushesAll who s t
    → Flies b' who f → SameOthers who b b' → IsStillBut b s → IsStillBut b' t

abbrev pub StillSettles : Type 0
StillSettles = (who : ℕ) (b b' : Parts) (s t : State) → SettlesAll who s t → SameOthers who b b'
    → IsStillBut b s → IsStillBut b' t
