-- Which machine serves an event.
use Rattle.std.proofs.Common.{◌≡◌, ◌≢◌, inr, ℕ, zero, suc, Bool, true, false, refl, sym, ◌∙◌, ap, subst, arith}
use Rattle.std.specs.Prelude.{Option, Some, None, IsSome}
use Rattle.pm_device.specs.State.{State}
use Rattle.dn_model.specs.Disk.{Disk}
use Rattle.dn_model.specs.Own.{Print}
use Rattle.dn_model.specs.declared.op.Op.{Op}
use Rattle.dn_model.specs.declared.op.Op.TheVariants as op
use Rattle.dn_volume.specs.declared.outcome.Outcome.{Outcome}
use Rattle.dn_volume.specs.declared.outcome.Outcome.TheVariants as told
use Rattle.dn_volume.specs.declared.flight.Flight.{Flight}
use Rattle.dn_volume.specs.declared.flight.Change.{Change}
use Rattle.dn_volume.specs.declared.flight.Change.TheVariants.{Data, Names as NamesChange}
use Rattle.dn_volume.specs.declared.volume.Parts.{Parts}
use Rattle.dn_volume.specs.declared.volume.Volume.{Volume}
use Rattle.dn_volume.specs.Parties.{Flies, flight_of, flight_at}
use Rattle.dn_volume.specs.Planned.{PlansData}
use Rattle.dn_volume.specs.PlannedNames.{PlansNames}
use Rattle.law_names.specs.NameChange.{NameChange as DiskChange}
use Rattle.dn_volume.specs.declared.flight.DataChange.{DataChange}
use Rattle.dn_volume.specs.Flights.{left_of, IsFlightOf}
use Rattle.dn_volume.specs.Agrees.{IsVolume, Agrees, agrees_with, is_stopped}
use Rattle.dn_volume.specs.Events.{Advances}
use Rattle.dn_volume.specs.Begins.{MayBegin, FliesAs, IsUntouched, WaitsForRelease}
use Rattle.dn_core.specs.declared.event.Event.TheVariants.{Begin, Advance}
use Rattle.dn_volume.specs.declared.kind.FlightKind.{FlightKind}
use Rattle.dn_volume.specs.declared.kind.FlightKind.TheVariants.{Write, Cut, Names}
use Rattle.dn_volume.specs.Kinds.{machine_of, IsServedBy}
use Rattle.dn_core.specs.Steps.{Steps, Opens, GoesOn, ReleasesInstead}
use Rattle.dn_volume.proofs.Since.{moves_on_since, breaks_since, untouched_since}
use Rattle.dn_core.proofs.Cleaned.{release_since}

pub served_by : (done : Op) (k : FlightKind) → machine_of done ≡ Some k → IsServedBy k done
served_by (op.Create name) k is = subst (λ (x : FlightKind). IsServedBy x (op.Create name)) (one Names k is) tt
  where
    one : (a b : FlightKind) → Some a ≡ Some b → a ≡ b
    one a b e = cc
served_by (op.Write name at text) k is = subst (λ (x : FlightKind). IsServedBy x (op.Write name at text)) (one Write k is) tt
  where
    one : (a b : FlightKind) → Some a ≡ Some b → a ≡ b
    one a b e = cc
served_by (op.Read name at count) k is = cc
served_by (op.Cut name to) k is = subst (λ (x : FlightKind). IsServedBy x (op.Cut name to)) (one Cut k is) tt
  where
    one : (a b : FlightKind) → Some a ≡ Some b → a ≡ b
    one a b e = cc
served_by (op.Remove name) k is = subst (λ (x : FlightKind). IsServedBy x (op.Remove name)) (one Names k is) tt
  where
    one : (a b : FlightKind) → Some a ≡ Some b → a ≡ b
    one a b e = cc
served_by (op.Rename from to) k is = subst (λ (x : FlightKind). IsServedBy x (op.Rename from to)) (one Names k is) tt
  where
    one : (a b : FlightKind) → Some a ≡ Some b → a ≡ b
    one a b e = cc
served_by (op.Size name) k is = cc
served_by op.List k is = cc

-- the operation that a client has
pub found : (b : Parts) (who : ℕ) → IsSome (flight_of b who) → (f : Flight) × Flies b who f
found b zero some = cc
found b (suc k) some = pick (flight_at b.flights.items k) refl some
  where
    pick : (o : Option Flight) → flight_at b.flights.items k ≡ o → IsSome o → (f : Flight) × Flies b (suc k) f
    pick None is none = cc
    pick (Some f) is some = (f, record { client = omega arith; is = ap (flight_at b.flights.items) (omega arith) ∙ is })

pub flies_some : (b : Parts) (who : ℕ) (f : Flight) → Flies b who f → IsSome (flight_of b who)
flies_some b zero f flies = absurd (let one = flies.client in omega (arith, one))
flies_some b (suc k) f flies = some_is (flight_at b.flights.items k) (ap (flight_at b.flights.items) (omega arith) ∙ flies.is)
  where
    some_is : (o : Option Flight) → o ≡ Some f → IsSome o
    some_is None is = cc
    some_is (Some x) is = refl

-- what is in flight is served by a machine
no_data : (d : Disk) (f : Flight) (c : DataChange) (done : Op) → PlansData d f c done → machine_of done ≡ None → ⊥
no_data d f c (op.Create name) plans none = plans
no_data d f c (op.Write name at text) plans none = cc
no_data d f c (op.Read name at count) plans none = plans
no_data d f c (op.Cut name to) plans none = cc
no_data d f c (op.Remove name) plans none = plans
no_data d f c (op.Rename from to) plans none = plans
no_data d f c (op.Size name) plans none = plans
no_data d f c op.List plans none = plans

no_names : (d : Disk) (f : Flight) (change : DiskChange) (done : Op) → PlansNames d f change done → machine_of done ≡ None → ⊥
no_names d f c (op.Create name) plans none = cc
no_names d f c (op.Write name at text) plans none = plans
no_names d f c (op.Read name at count) plans none = plans
no_names d f c (op.Cut name to) plans none = plans
no_names d f c (op.Remove name) plans none = cc
no_names d f c (op.Rename from to) plans none = cc
no_names d f c (op.Size name) plans none = plans
no_names d f c op.List plans none = plans

none_by : (d : Disk) (who : ℕ) (f : Flight) (s : State) (change : Change) → IsFlightOf d who f s change → machine_of f.op ≡ None → ⊥
none_by d who f s (Data c) is none = no_data d f c f.op is.plans none
none_by d who f s (NamesChange c) is none = no_names d f is.change f.op is.plans none

pub some_machine : {D F : Type 0} (state : D → State) (v : Volume D F) → Agrees state v → v.parts.stopped ≡ false → (who : ℕ) (f : Flight)
    → Flies v.parts who f → machine_of f.op ≡ None → ⊥
some_machine state v (agrees_with d volume) running who f flies none =
    none_by d who f (state v.device) f.change (volume.flights.each who f flies) none
some_machine state v (is_stopped is) running who f flies none = clash v.parts.stopped running is.stopped
  where
    clash : (x : Bool) → x ≡ false → x ≡ true → ⊥
    clash x low high = cc

-- the machine that is asked serves what is in flight
pub flies_as : (b : Parts) (who : ℕ) → IsSome (flight_of b who) → (k : FlightKind)
    → ((f : Flight) → Flies b who f → Some k ≡ machine_of f.op) → FliesAs (IsServedBy k) b who
flies_as b who some k is = let f = found b who some in record {
  flight = f.0;
  flies = f.1;
  kind = served_by f.0.op k (sym (is f.0 f.1));
}

pub goes_on : {D F : Type 0} (state : D → State) (print : Print) (who : ℕ) (v v' : Volume D F) (d : Disk) (outcome : Outcome)
    → IsSome (flight_of v.parts who) → ((f : Flight) → Flies v.parts who f → Advances state print who f.op (left_of f) v v' d outcome)
    → GoesOn state print who v v' d outcome
goes_on state print who v v' d outcome some advances = let f = found v.parts who some in record {
  flight = f.0;
  flies = f.1;
  advances = advances f.0 f.1;
}

-- a begin that waits, and the event of reclaim in its place
pub opens_instead : {D F : Type 0} (state : D → State) (print : Print) (who : ℕ) (op : Op) (v v1 v2 : Volume D F) (d : Disk)
    (waiting : ℕ) (outcome : Outcome) → IsUntouched state v v1 d → WaitsForRelease d v.parts op waiting
    → ReleasesInstead state print v1 v2 d outcome → Opens state print who op v v2 d outcome
opens_instead state print who op v v1 v2 d waiting (told.Running left) un waits is = absurd is
opens_instead state print who op v v1 v2 d waiting (told.Done reply) un waits is = absurd is
opens_instead state print who op v v1 v2 d waiting (told.Busy holder) un waits is = absurd is
opens_instead state print who op v v1 v2 d waiting (told.Released left) un waits is = record {
  waits = subst (WaitsForRelease d v.parts op) waits.is waits;
  moves = moves_on_since state v v1 v2 print 16 d un is.0;
  lowers = release_since v.parts v1.parts v2.parts un.same left is.1;
}
opens_instead state print who op v v1 v2 d waiting told.Idle un waits is = absurd is
opens_instead state print who op v v1 v2 d waiting told.NotYours un waits is = absurd is
opens_instead state print who op v v1 v2 d waiting told.NoMemory un waits is =
    (untouched_since state v v1 v2 print 16 d un is, inr (subst (WaitsForRelease d v.parts op) waits.is waits))
opens_instead state print who op v v1 v2 d waiting told.Stopped un waits is = record {
  waits = subst (WaitsForRelease d v.parts op) waits.is waits;
  breaks = breaks_since state v v1 v2 print 16 d un None is;
}

-- a volume that isn't stopped agrees with a disk
pub disk_of : {D F : Type 0} (state : D → State) (v : Volume D F) → Agrees state v → v.parts.stopped ≡ false
    → (d : Disk) × IsVolume d v.parts (state v.device)
disk_of state v (agrees_with d volume) running = (d, volume)
disk_of state v (is_stopped is) running = absurd (clash v.parts.stopped running is.stopped)
  where
    clash : (x : Bool) → x ≡ false → x ≡ true → ⊥
    clash x low high = cc

-- what waits is some
pub waits_some : {D F : Type 0} (state : D → State) (v v1 : Volume D F) (op : Op) (waiting : ℕ)
    → ((d : Disk) → IsVolume d v.parts (state v.device) → IsUntouched state v v1 d × WaitsForRelease d v.parts op waiting)
    → Agrees state v → v.parts.stopped ≡ false → v1.parts.reclaiming.waiting ≢ 0
waits_some state v v1 op waiting gives agrees running none =
    let d = disk_of state v agrees running in
    let is = gives d.0 d.1 in
    let some = is.1.some in
    let same = is.1.is in
    let kept = is.0.same.work.waiting in
    omega (arith, some, same, kept, none)

pub running_still : {D F : Type 0} (state : D → State) (v v1 : Volume D F) (op : Op) (waiting : ℕ)
    → ((d : Disk) → IsVolume d v.parts (state v.device) → IsUntouched state v v1 d × WaitsForRelease d v.parts op waiting)
    → Agrees state v → v.parts.stopped ≡ false → v1.parts.stopped ≡ false
running_still state v v1 op waiting gives agrees running =
    let d = disk_of state v agrees running in (gives d.0 d.1).0.same.work.stopped ∙ running

-- the parts of what a step promises
pub advance_served : {D F : Type 0} (state : D → State) (print : Print) (who : ℕ) (v v' : Volume D F) (outcome : Outcome) → v.parts.stopped ≡ false
    → IsSome (flight_of v.parts who)
    → ((d : Disk) → IsVolume d v.parts (state v.device) → GoesOn state print who v v' d outcome) → Steps state print (Advance who) v v' outcome
advance_served state print who v v' outcome running some serves = record {
  stopped = λ is. absurd (clash v.parts.stopped running is);
  not_yours = λ is none. let f = found v.parts who some in absurd (none f.0 f.1);
  serves = λ d volume yours. serves d volume;
}
  where
    clash : (x : Bool) → x ≡ false → x ≡ true → ⊥
    clash x low high = cc

pub advance_refused : {D F : Type 0} (state : D → State) (print : Print) (who : ℕ) (v : Volume D F) → v.parts.stopped ≡ false
    → (IsSome (flight_of v.parts who) → ⊥) → Steps state print (Advance who) v v told.NotYours
advance_refused state print who v running none = record {
  stopped = λ is. absurd (clash v.parts.stopped running is);
  not_yours = λ is not. (refl, refl);
  serves = λ d volume yours. absurd (yours (λ f flies. none (flies_some v.parts who f flies)));
}
  where
    clash : (x : Bool) → x ≡ false → x ≡ true → ⊥
    clash x low high = cc

pub begin_served : {D F : Type 0} (state : D → State) (print : Print) (who : ℕ) (op : Op) (v v' : Volume D F) (outcome : Outcome)
    → v.parts.stopped ≡ false → MayBegin v.parts who
    → ((d : Disk) → IsVolume d v.parts (state v.device) → Opens state print who op v v' d outcome) → Steps state print (Begin who op) v v' outcome
begin_served state print who op v v' outcome running may serves = record {
  stopped = λ is. absurd (clash v.parts.stopped running is);
  not_yours = λ is not. absurd (not may);
  serves = λ d volume yours. (may, serves d volume);
}
  where
    clash : (x : Bool) → x ≡ false → x ≡ true → ⊥
    clash x low high = cc

pub begin_refused : {D F : Type 0} (state : D → State) (print : Print) (who : ℕ) (op : Op) (v : Volume D F) → v.parts.stopped ≡ false
    → (MayBegin v.parts who → ⊥) → Steps state print (Begin who op) v v told.NotYours
begin_refused state print who op v running not = record {
  stopped = λ is. absurd (clash v.parts.stopped running is);
  not_yours = λ is none. (refl, refl);
  serves = λ d volume yours. absurd (yours not);
}
  where
    clash : (x : Bool) → x ≡ false → x ≡ true → ⊥
    clash x low high = cc
