-- An operation in flight, as it is read and put back at its client's place.
use Rattle.std.proofs.Common.{◌≡◌, ◌≢◌, ℕ, zero, suc, ◌-◌, ◌<◌, List, [], ◌∷◌, length, get_or, refl, sym, ◌∙◌, ap, arith}
use Rattle.std.specs.Prelude.{slice_get, slice_set, Option, Some}
use Rattle.std.proofs.lemmas.List.{length-set}
use Rattle.std.proofs.lemmas.Option.{slice_get_read}
use Rattle.dn_volume.specs.declared.flight.Flight.{Flight}
use Rattle.dn_volume.specs.declared.flight.Change.{Change}
use Rattle.dn_volume.specs.declared.flight.Change.TheVariants.{Data}
use Rattle.dn_volume.specs.declared.flight.DataChange.{DataChange}
use Rattle.dn_volume.specs.declared.volume.Parts.{Parts}
use Rattle.dn_volume.specs.Parties.{Flies, flight_at, opened}
use Rattle.dn_volume.proofs.Replaced.{flight_within}

pub within : (b : Parts) (who : ℕ) (f : Flight) → Flies b who f → who - 1 < length b.flights.items
within b who f flies = flight_within b.flights.items (who - 1) f flies.is

-- what is read at a client's place
pub at_client : (b : Parts) (who : ℕ) (f : Flight) → Flies b who f → (x : Option Flight) → x ≡ get_or b.flights.items (who - 1) x → x ≡ Some f
at_client b who f flies x is =
    sym (ap (λ (r : Option (Option Flight)). opened r)
    (slice_get_read b.flights.items (length b.flights.items) (who - 1) x refl (within b who f flies) is)) ∙ flies.is

pub one_flight : (x : Option Flight) (f g : Flight) → x ≡ Some f → x ≡ Some g → f ≡ g
one_flight x f g a b = cc

pub one_data : (x : Change) (c e : DataChange) → x ≡ Data c → x ≡ Data e → c ≡ e
one_data x c e a b = cc

pub same_flight : (b : Parts) (who : ℕ) (f g : Flight) → Flies b who f → Flies b who g → f ≡ g
same_flight b who f g one other = one_flight (flight_at b.flights.items (who - 1)) f g one.is other.is

get_here : (xs : List (Option Flight)) (k : ℕ) (x : Option Flight) → k < length xs → slice_get (slice_set xs k x) k ≡ Some x
get_here [] k x lt = absurd (omega (arith, lt))
get_here (y ∷ ys) zero x lt = refl
get_here (y ∷ ys) (suc k) x lt = get_here ys k x (omega (arith, lt))

get_there : (xs : List (Option Flight)) (k j : ℕ) (x : Option Flight) → j ≢ k → slice_get (slice_set xs k x) j ≡ slice_get xs j
get_there [] k j x ne = refl
get_there (y ∷ ys) zero zero x ne = absurd (ne refl)
get_there (y ∷ ys) zero (suc j) x ne = refl
get_there (y ∷ ys) (suc k) zero x ne = refl
get_there (y ∷ ys) (suc k) (suc j) x ne = get_there ys k j x (λ e. ne (ap (λ (n : ℕ). suc n) e))

-- what stands at the places once one is set
pub flight_here : (xs : List (Option Flight)) (k : ℕ) (x : Option Flight) → k < length xs → flight_at (slice_set xs k x) k ≡ x
flight_here xs k x lt = ap (λ (r : Option (Option Flight)). opened r) (get_here xs k x lt)

pub flight_there : (xs : List (Option Flight)) (k j : ℕ) (x : Option Flight) → j ≢ k → flight_at (slice_set xs k x) j ≡ flight_at xs j
flight_there xs k j x ne = ap (λ (r : Option (Option Flight)). opened r) (get_there xs k j x ne)

pub set_long : (xs : List (Option Flight)) (k : ℕ) (x : Option Flight) → length (slice_set xs k x) ≡ length xs
set_long xs k x = length-set xs k x
