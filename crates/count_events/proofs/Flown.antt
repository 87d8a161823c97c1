-- An operation in flight that has raised one row more.
use Rattle.std.proofs.Common.{◌≡◌, ◌≢◌, ⊎_elim, ℕ, zero, suc, ◌+◌, ◌-◌, ◌<◌, List, [], ◌∷◌, length, refl, sym, ◌∙◌, ap, subst, arith}
use Rattle.std.specs.Prelude.{slice_get, slice_set, slice_index_or, Option, Some, None}
use Rattle.std.proofs.lemmas.List.{length-set}
use Rattle.std.proofs.lemmas.Option.{slice_get_cases}
use Rattle.pm_device.specs.State.{State}
use Rattle.dn_model.specs.Disk.{Disk}
use Rattle.dn_model.specs.declared.op.Op.{Op}
use Rattle.dn_model.specs.declared.op.Op.TheVariants.{Create, Write, Read, Cut, Remove, Rename, Size, List as ListAll}
use Rattle.dn_volume.specs.declared.flight.Flight.{Flight}
use Rattle.dn_volume.specs.declared.flight.Change.{Change}
use Rattle.dn_volume.specs.declared.flight.Change.TheVariants.{Data}
use Rattle.dn_volume.specs.declared.flight.DataChange.{DataChange}
use Rattle.dn_volume.specs.declared.volume.Parts.{Parts}
use Rattle.dn_volume.specs.Parties.{Flies, flight_at, opened}
use Rattle.dn_volume.specs.Planned.{PlansData}
use Rattle.dn_volume.specs.Flights.{GrowsBy, IsDataFlight, IsFlight, IsFlightOf}

-- the operation with one row more raised
abbrev pub one_more : Flight → Flight
one_more f = record f { raised = f.raised + 1 }

pub in_range : (b : Parts) (who : ℕ) (f : Flight) → Flies b who f → who - 1 < length b.flights.items
in_range b who f flies = ⊎_elim (λ found. found.1)
    (λ past. absurd (none_some f (flight_at b.flights.items (who - 1)) (ap (λ (x : Option (Option Flight)). opened x) past.1) flies.is))
    (slice_get_cases b.flights.items (who - 1)).1
  where
    none_some : (x : Flight) (r : Option Flight) → r ≡ None → r ≡ Some x → ⊥
    none_some x r none some = cc

pub get_here : (xs : List (Option Flight)) (k : ℕ) (x : Option Flight) → k < length xs → slice_get (slice_set xs k x) k ≡ Some x
get_here [] k x lt = absurd (omega (arith, lt))
get_here (y ∷ ys) zero x lt = refl
get_here (y ∷ ys) (suc k) x lt = get_here ys k x (omega (arith, lt))

pub get_there : (xs : List (Option Flight)) (k j : ℕ) (x : Option Flight) → j ≢ k → slice_get (slice_set xs k x) j ≡ slice_get xs j
get_there [] k j x ne = refl
get_there (y ∷ ys) zero zero x ne = absurd (ne refl)
get_there (y ∷ ys) zero (suc j) x ne = refl
get_there (y ∷ ys) (suc k) zero x ne = refl
get_there (y ∷ ys) (suc k) (suc j) x ne = get_there ys k j x (λ e. ne (ap (λ (n : ℕ). suc n) e))

pub same_flight : (b : Parts) (who : ℕ) (f g : Flight) → Flies b who f → Flies b who g → f ≡ g
same_flight b who f g one other = same (flight_at b.flights.items (who - 1)) one.is other.is
  where
    same : (r : Option Flight) → r ≡ Some f → r ≡ Some g → f ≡ g
    same r is at = cc

module _ (d : Disk) (who : ℕ) (f : Flight) (c : DataChange) (s : State) where
  grows_more : GrowsBy d f → GrowsBy d (one_more f)
  grows_more is = record {
    in_table = is.in_table;
    live = is.live;
    holds = is.holds;
    room = is.room;
    apart = is.apart;
    takes = is.takes;
    undying = is.undying;
  }

  plans_more : (op : Op) → PlansData d f c op → PlansData d (one_more f) c op
  plans_more (Create name) is = absurd is
  plans_more (Write name at text) is = record {
    held = is.held;
    legal = is.legal;
    leads = is.leads;
    some = is.some;
    short = is.short;
    fits = is.fits;
    first = is.first;
    places = is.places;
    size_is = is.size_is;
    rows = is.rows;
  }
  plans_more (Read name at count) is = absurd is
  plans_more (Cut name to) is = record {
    held = is.held;
    legal = is.legal;
    leads = is.leads;
    fits = is.fits;
    first = is.first;
    places = is.places;
    size_is = is.size_is;
    rows = is.rows;
  }
  plans_more (Remove name) is = absurd is
  plans_more (Rename from to) is = absurd is
  plans_more (Size name) is = absurd is
  plans_more ListAll is = absurd is

  pub data_more : c.filled ≡ length c.blocks.items → f.raised < length f.rows.items → IsDataFlight d who f c s → IsDataFlight d who (one_more f) c s
  data_more full some is = record {
    file = is.file;
    grows = grows_more is.grows;
    plans = plans_more f.op is.plans;
    chained = is.chained;
    covers = is.covers;
    blocks = is.blocks;
    few = is.few;
    slots = is.slots;
    filled_few = is.filled_few;
    filled = is.filled;
    raised_few = omega (arith, some);
    in_turn = λ any. full;
  }

  pub flight_more : f.change ≡ Data c → c.filled ≡ length c.blocks.items → f.raised < length f.rows.items → IsFlight d who f s
      → IsFlight d who (one_more f) s
  flight_more data_is full some is =
      subst (λ (x : Change). IsFlightOf d who (one_more f) s x) (sym data_is)
      (data_more full some (subst (λ (x : Change). IsFlightOf d who f s x) data_is is))

pub set_long : (xs : List (Option Flight)) (k : ℕ) (x : Option Flight) → length (slice_set xs k x) ≡ length xs
set_long xs k x = length-set xs k x

-- what is read at a client's place
pub at_client : (b : Parts) (who : ℕ) (f : Flight) → Flies b who f → (x : Option Flight) → x ≡ slice_index_or b.flights.items (who - 1) x → x ≡ Some f
at_client b who f flies x is = by_place b.flights.items (who - 1) is flies.is
  where
    by_place : (xs : List (Option Flight)) (k : ℕ) → x ≡ slice_index_or xs k x → flight_at xs k ≡ Some f → x ≡ Some f
    by_place [] k is at = cc
    by_place (y ∷ ys) zero is at = is ∙ at
    by_place (y ∷ ys) (suc k) is at = by_place ys k is at
