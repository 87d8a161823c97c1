-- A cleaning that is begun.
use Rattle.std.proofs.Common.{◌≡◌, ⊎_elim, ℕ, ◌-◌, ◌<◌, ◌≤◌, List, [], ◌∷◌, length, refl, sym, ap, subst, arith}
use Rattle.std.specs.Prelude.{Option, Some, None, IfSome, Result, Ok, Err, IsErr, Contains, All, slice_get}
use Rattle.std.proofs.lemmas.Option.{slice_get_cases, slice_get_within}
use Rattle.pm_layout.specs.declared.Geometry.{Geometry}
use Rattle.pm_layout.specs.Geometry.{slots}
use Rattle.dn_model.specs.declared.op.CountChange.{CountChange}
use Rattle.dn_volume.specs.declared.background.Cleaning.{Cleaning}
use Rattle.dn_volume.specs.declared.flight.Flight.{Flight}
use Rattle.dn_volume.specs.declared.volume.Parts.{Parts}
use Rattle.dn_volume.specs.Parties.{Flies, SameOthers, flight_at, opened}
use Rattle.dn_volume.specs.Agrees.{NamesSlots}
use Rattle.dn_volume.specs.Works.{MayWork, clean_stand}
use Rattle.count_events.specs.Released.{Stops}
use Rattle.law_table.proofs.Rows.{listed_cases}

pub one_cleaning : (o : Option Cleaning) (c x : Cleaning) → o ≡ Some c → o ≡ Some x → c ≡ x
one_cleaning o c x is at = cc

none_some : {X : Type 0} (o : Option X) (x : X) → o ≡ None → o ≡ Some x → ⊥
none_some o x none some = cc

-- there is no client past the last
pub no_client : (b : Parts) (who : ℕ) (f : Flight) → length b.flights.items ≡ 14 → 15 ≤ who → Flies b who f → ⊥
no_client b who f clients high flies = by_place (slice_get b.flights.items (who - 1)) refl
  where
    by_place : (o : Option (Option Flight)) → slice_get b.flights.items (who - 1) ≡ o → ⊥
    by_place None is = none_some (flight_at b.flights.items (who - 1)) f (ap opened is) flies.is
    by_place (Some x) is = let lt = slice_get_within b.flights.items (who - 1) x is in omega (arith, lt, clients, high)

pub cleaning_pages : (page p : ℕ) → Contains (page ∷ []) p → page ≡ p
cleaning_pages page p has = ⊎_elim (λ same. same) (λ later. absurd (omega (arith, later.1))) (listed_cases page [] p has)

pub of_some : (o : Option Cleaning) (c : Cleaning) (P : Cleaning → Type 0) → o ≡ Some c → IfSome o P → P c
of_some o c P is has = subst (λ (x : Option Cleaning). IfSome x P) is has

-- one that is begun is work
pub begun_works : (b : Parts) (c : Cleaning) → b.reclaiming.cleaning ≡ Some c → MayWork (clean_stand b)
begun_works b c cleans = record {
  some = λ rests. none_some b.reclaiming.cleaning c rests.none_begun cleans;
  loose = λ holder none. none;
}

pub err_is : {T E : Type 0} (r : Result T E) (x : E) → r ≡ Err x → IsErr r
err_is (Ok y) x is = cc
err_is (Err e) x is = refl

-- where a fence failed
pub names_stopped : (b b' : Parts) → Stops b b' → NamesSlots b → NamesSlots b'
names_stopped b b' stops names = subst (λ (g : Geometry). All (λ (x : CountChange). x.slot < slots g) b'.trace.items) (sym stops.geometry)
    (subst (All (λ (x : CountChange). x.slot < slots b.geometry)) (sym stops.trace) names)

pub stops_others : (b b' : Parts) → Stops b b' → SameOthers 16 b b'
stops_others b b' stops = record {
  flights = λ q client other. ap (λ (fs : List (Option Flight)). flight_at fs (q - 1)) stops.flights;
  sharing = λ other. stops.sharing;
  cleaning = λ other. absurd (other refl);
}

pub here_at : {X : Type 0} (xs : List X) (k : ℕ) → k < length xs → (x : X) × (slice_get xs k ≡ Some x)
here_at {X = X} xs k lt = by_it (slice_get xs k) refl
  where
    by_it : (r : Option X) → slice_get xs k ≡ r → (x : X) × (slice_get xs k ≡ Some x)
    by_it None is = absurd (⊎_elim (λ found. none_some (slice_get xs k) found.0 is found.2) (λ past. omega (arith, lt, past.0))
        (slice_get_cases xs k).1)
    by_it (Some x) is = (x, is)
