use Rattle.std.proofs.Common.{ℕ, ◌+◌, List, [], ◌∷◌, length, ◌∙◌, ap, arith}
use Rattle.std.specs.Prelude.{None, Option}
use Rattle.std.proofs.lemmas.List.{length-append}
use Rattle.dn_volume.specs.declared.flight.Flight.{Flight}
use Rattle.dn_volume.specs.Parties.{flight_at}
use Rattle.dn_mount.proofs.Fresh.{no_flight_more}
use Rattle.dn_mount.proofs.parts.no_flights.Goals as goal

pub loop-i-init : goal.loop-i-init
loop-i-init c = (ap length c.in_ok-flights.ensures.items, λ k. ap (λ (xs : List (Option Flight)). flight_at xs k) c.in_ok-flights.ensures.items)

pub loop-i-preserved : goal.loop-i-preserved
loop-i-preserved c = (
  ap length c.in_ok-push.ensures.items ∙ length-append c.loop-i.flights.items (None ∷ []) ∙ ap (λ (n : ℕ). n + 1) c.loop-i.invariant.0,
  λ k. ap (λ (xs : List (Option Flight)). flight_at xs k) c.in_ok-push.ensures.items ∙ no_flight_more c.loop-i.flights.items c.loop-i.invariant.1 k,
)

pub returns : goal.returns
returns c = record { clients = omega (arith, c.loop-i.invariant.0); none = c.loop-i.invariant.1 }
