-- Nothing stands in the way of an operation in flight.
use Rattle.std.proofs.Common.{◌≡◌, inr, ℕ, List, [], ◌∷◌, length, ap, Option, Some}
use Rattle.std.specs.Prelude.{All, IsSome, is_some}
use Rattle.std.specs.Option.{option_map}
use Rattle.std.proofs.lemmas.List.Elements.{All-nil, All-cons}
use Rattle.pm_device.specs.State.{State}
use Rattle.log_entry.specs.Name.{IsLegal}
use Rattle.dn_model.specs.Disk.{Disk}
use Rattle.dn_model.specs.Files.{files, named, bytes}
use Rattle.dn_model.specs.Apply.{IsGranted}
use Rattle.dn_model.specs.History.{needed}
use Rattle.dn_model.specs.declared.op.Op.{Op}
use Rattle.dn_model.specs.declared.op.Op.TheVariants.{Create, Write, Read, Cut, Remove, Rename, Size, List as ListAll}
use Rattle.law_names.specs.NameChange.{NameChange as DiskChange}
use Rattle.dn_volume.specs.declared.flight.Flight.{Flight}
use Rattle.dn_volume.specs.declared.flight.Change.{Change}
use Rattle.dn_volume.specs.declared.flight.Change.TheVariants.{Data, Names}
use Rattle.dn_volume.specs.declared.flight.DataChange.{DataChange}
use Rattle.dn_volume.specs.Parties.{taken_by}
use Rattle.dn_volume.specs.Planned.{PlansData}
use Rattle.dn_volume.specs.PlannedNames.{PlansNames}
use Rattle.dn_volume.specs.Flights.{IsFlightOf}
use Rattle.dn_volume.specs.Laws.{FlightsAreGranted}

module _ (d : Disk) where
  found : (name : List ℕ) (ino : ℕ) → named d name ≡ Some ino → IsSome (files d name)
  found name ino leads = ap (λ (x : Option ℕ). is_some (option_map (bytes d) x)) leads

  one_name : (name : List ℕ) → IsLegal name → All IsLegal (name ∷ [])
  one_name name legal = All-cons IsLegal name [] legal (All-nil IsLegal)

  data_granted : (f : Flight) (c : DataChange) (op : Op) → PlansData d f c op → IsGranted (files d) op
  data_granted f c (Create name) plans = absurd plans
  data_granted f c (Write name at text) plans = record {
    legal = one_name name plans.legal;
    finds = found name f.ino plans.leads;
    short = plans.short;
    fits = inr plans.fits;
  }
  data_granted f c (Read name at count) plans = absurd plans
  data_granted f c (Cut name to) plans = record {
    legal = one_name name plans.legal;
    finds = found name f.ino plans.leads;
    short = tt;
    fits = plans.fits;
  }
  data_granted f c (Remove name) plans = absurd plans
  data_granted f c (Rename from to) plans = absurd plans
  data_granted f c (Size name) plans = absurd plans
  data_granted f c ListAll plans = absurd plans

  names_granted : (f : Flight) (change : DiskChange) (op : Op) → PlansNames d f change op → IsGranted (files d) op
  names_granted f change (Create name) plans = record {
    legal = one_name name plans.legal;
    finds = ap (option_map (bytes d)) plans.unnamed;
    short = tt;
    fits = tt;
  }
  names_granted f change (Write name at text) plans = absurd plans
  names_granted f change (Read name at count) plans = absurd plans
  names_granted f change (Cut name to) plans = absurd plans
  names_granted f change (Remove name) plans = record {
    legal = one_name name plans.legal;
    finds = found name change.ino plans.leads;
    short = tt;
    fits = tt;
  }
  names_granted f change (Rename from to) plans = record {
    legal = All-cons IsLegal from (to ∷ []) plans.legal_from (one_name to plans.legal_to);
    finds = found from plans.ino plans.leads;
    short = tt;
    fits = tt;
  }
  names_granted f change (Size name) plans = absurd plans
  names_granted f change ListAll plans = absurd plans

  granted_by : (who : ℕ) (f : Flight) (s : State) (c : Change) → IsFlightOf d who f s c
      → IsGranted (files d) f.op × (length (taken_by f) ≡ needed d f.op)
  granted_by who f s (Data c) is = (data_granted f c f.op is.plans, is.grows.takes)
  granted_by who f s (Names c) is = (names_granted f is.change f.op is.plans, is.grows.takes)

pub flights_granted : FlightsAreGranted
flights_granted d who f s is = granted_by d who f s f.change is
