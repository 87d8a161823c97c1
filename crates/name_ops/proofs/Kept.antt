-- What is read of an operation in flight is what it is.
use Rattle.std.proofs.Common.{◌≡◌, ℕ, ◌+◌, ◌-◌, ◌*◌, ◌<◌, ◌≤◌, List, length, refl, sym, ◌∙◌, ap, subst, arith, Option, Some}
use Rattle.std.specs.Prelude.{slice_get, slice_index_or}
use Rattle.std.proofs.lemmas.Option.{slice_get_read}
use Rattle.pm_device.specs.State.{State}
use Rattle.dn_model.specs.Disk.{Disk}
use Rattle.dn_volume.specs.declared.flight.Flight.{Flight}
use Rattle.dn_volume.specs.declared.flight.Change.{Change}
use Rattle.dn_volume.specs.declared.flight.Change.TheVariants.{Names}
use Rattle.dn_volume.specs.declared.flight.NameChange.{NameChange}
use Rattle.dn_volume.specs.declared.volume.InodeState.{InodeState}
use Rattle.dn_volume.specs.declared.volume.Parts.{Parts}
use Rattle.dn_volume.specs.declared.units.TheConstants.{SLOT_UNITS, TURN_UNITS}
use Rattle.dn_volume.specs.Parties.{Flies}
use Rattle.dn_volume.specs.Reserve.{slots_of, prepared_units}
use Rattle.dn_volume.specs.Agrees.{IsVolume}
use Rattle.count_events.proofs.Flown.{at_client, same_flight}
use Rattle.name_ops.specs.Preparing.{prepare_units, IsToPrepare, IsNextToPrepare}
use Rattle.name_ops.proofs.NameFlight.{flight_of, units_owed}

-- the flight that is read at the client's place
pub to_here : (b : Parts) (who : ℕ) → IsNextToPrepare b who → (x : Option Flight) → x ≡ slice_index_or b.flights.items (who - 1) x → (f : Flight)
    → x ≡ Some f → (c : NameChange) → f.change ≡ Names c → IsToPrepare b who f c
to_here b who next x read f is c names =
    let same : next.flight ≡ f = one x next.flight f (at_client b who next.flight next.is.flies x read) is in
    let change : next.change ≡ c = same_names f.change next.change c (ap (λ (g : Flight). g.change) (sym same) ∙ next.is.change_is) names in
    subst (λ (g : Flight). IsToPrepare b who g c) same (subst (λ (y : NameChange). IsToPrepare b who next.flight y) change next.is)
  where
    one : (x : Option Flight) (f g : Flight) → x ≡ Some f → x ≡ Some g → f ≡ g
    one x f g is at = cc

    same_names : (x : Change) (c c' : NameChange) → x ≡ Names c → x ≡ Names c' → c ≡ c'
    same_names x c c' is at = cc

pub two_lists : {A B : Type 0} (P : List A → List B → Type 0) (xs xs' : List A) (ys ys' : List B) → xs ≡ xs' → ys ≡ ys' → P xs ys → P xs' ys'
two_lists P xs xs' ys ys' one other has = subst (λ zs. P zs ys') one (subst (λ zs. P xs zs) other has)

-- what a list holds at a place
pub node_at : (nodes : List InodeState) (ino : ℕ) (x : InodeState) → ino < length nodes → x ≡ slice_index_or nodes ino x
    → slice_get nodes ino ≡ Some x
node_at nodes ino x lt is = slice_get_read nodes (length nodes) ino x refl lt is

-- the room for its first advance
pub units_to_prepare : (d : Disk) (b : Parts) (s : State) (who : ℕ) (f : Flight) (c : NameChange) → IsVolume d b s → IsToPrepare b who f c
    → SLOT_UNITS * (length f.slots.items + length f.fresh.items) + TURN_UNITS ≤ s.spare
units_to_prepare d b s who f c v to =
    let owed = units_owed d b s who f c v to.flies to.change_is (flight_of d b s who f c v to.flies to.change_is) in
    let is : prepared_units c.prepared (slots_of f) ≡ SLOT_UNITS * slots_of f + TURN_UNITS = ap (λ x. prepared_units x (slots_of f)) to.unprepared in
    let there = v.room.units in
    omega (arith, owed, is, there)

-- what holds of the flight that is read holds of the client's
pub at_read : (b : Parts) (who : ℕ) (f : Flight) (c : NameChange) → IsToPrepare b who f c → (x : Option Flight)
    → x ≡ slice_index_or b.flights.items (who - 1) x → (g : Flight) → x ≡ Some g → (y : NameChange) → g.change ≡ Names y
    → (P : Flight → NameChange → Type 0) → P g y → P f c
at_read b who f c to x read g is y names P has =
    let same : g ≡ f = one x g f is (at_client b who f to.flies x read) in
    let change : y ≡ c = same_names f.change y c (ap (λ (h : Flight). h.change) (sym same) ∙ names) to.change_is in
    subst (λ (h : Flight). P h c) same (subst (λ (z : NameChange). P g z) change has)
  where
    one : (x : Option Flight) (f g : Flight) → x ≡ Some f → x ≡ Some g → f ≡ g
    one x f g is at = cc

    same_names : (x : Change) (c c' : NameChange) → x ≡ Names c → x ≡ Names c' → c ≡ c'
    same_names x c c' is at = cc

-- the client's operation is the one that is to be prepared
pub at_flight : (b : Parts) (who : ℕ) (next : IsNextToPrepare b who) (f : Flight) → Flies b who f → IsToPrepare b who f next.change
at_flight b who next f flies = subst (λ (g : Flight). IsToPrepare b who g next.change) (same_flight b who next.flight f next.is.flies flies) next.is

pub units_owed_now : (d : Disk) (b : Parts) (s : State) (who : ℕ) (f : Flight) (c : NameChange) → IsVolume d b s → IsToPrepare b who f c
    → prepare_units f ≤ b.owed.units
units_owed_now d b s who f c v to =
    let owed = units_owed d b s who f c v to.flies to.change_is (flight_of d b s who f c v to.flies to.change_is) in
    let is : prepared_units c.prepared (slots_of f) ≡ SLOT_UNITS * slots_of f + TURN_UNITS = ap (λ x. prepared_units x (slots_of f)) to.unprepared in
    omega (arith, owed, is)
