use Rattle.dn_volume.proofs.FlightsStay.{flights_stay}
use Rattle.dn_volume.proofs.laws.flights_stay.Goals as goal

pub returns : goal.returns
returns c = flights_stay
