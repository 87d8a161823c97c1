use Rattle.dn_volume.proofs.FlightsGranted.{flights_granted}
use Rattle.dn_volume.proofs.laws.flights_are_granted.Goals as goal

pub returns : goal.returns
returns c = flights_granted
