use Rattle.std.proofs.Common.{◌≡◌, ℕ, length}
use Rattle.std.specs.Prelude.{None}
use Rattle.dn_volume.specs.Parties.{flight_at}
use Rattle.dn_mount.proofs.parts.no_flights.Given as goal

abbrev pub invariant-loop-i : goal.invariant-loop-i
invariant-loop-i l = (length l.flights.items ≡ l._i) × ((k : ℕ) → flight_at l.flights.items k ≡ None)
