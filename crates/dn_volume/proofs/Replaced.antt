-- Only one client's operation in flight is another afterwards: who holds, has taken, has raised and is owed what.
use Rattle.std.proofs.Common.{◌≡◌, ◌≢◌, ◌⊎◌, inl, inr, ⊎_elim, ℕ, ◌+◌, ◌-◌, ◌<◌, ◌≤◌, List, length}
use Rattle.std.proofs.Common.{refl, sym, ◌∙◌, ap, subst, arith, Option, Some, None}
use Rattle.std.specs.Prelude.{Contains, slice_get}
use Rattle.std.proofs.lemmas.Bool.{cases_eq}
use Rattle.std.proofs.lemmas.Option.{slice_get_within}
use Rattle.law_write.proofs.Counting.{total-change}
use Rattle.pm_device.specs.State.{State}
use Rattle.dn_model.specs.Disk.{Disk}
use Rattle.dn_volume.specs.declared.flight.Flight.{Flight}
use Rattle.dn_volume.specs.declared.flight.Change.TheVariants.{Data}
use Rattle.dn_volume.specs.declared.flight.DataChange.{DataChange}
use Rattle.dn_volume.specs.declared.volume.InodeState.{InodeState}
use Rattle.dn_volume.specs.declared.volume.Parts.{Parts}
use Rattle.dn_volume.specs.declared.volume.Room.{Room}
use Rattle.dn_volume.specs.Parties.{Flies, Holds, by_client, by_daemon, by_cleaning, Takes, for_client, for_cleaning, SameOthers, KeepsOps, flight_at, opened}
use Rattle.dn_volume.specs.Balance.{raised, raised_by, raised_to_share, raised_to_die, times}
use Rattle.dn_volume.specs.Flights.{IsFlight}
use Rattle.dn_volume.specs.Reclaims.{one_if}
use Rattle.dn_volume.specs.Reserve.{owed_sum, owed_to, units_to_share, changes_to_share, Owes, units_to_clean, queue_to_clean}
use Rattle.dn_volume.specs.Replaces.{Replaces, MovesOwed, held_of, taken_of, IsFurther}

-- an operation stands at its place
pub opened_is : (r : Option (Option Flight)) (f : Flight) → opened r ≡ Some f → r ≡ Some (Some f)
opened_is None f is = cc
opened_is (Some r) f is = ap (λ x. Some x) is

pub flight_within : (flights : List (Option Flight)) (k : ℕ) (f : Flight)
    → flight_at flights k ≡ Some f → k < length flights
flight_within flights k f is = slice_get_within flights k (Some f) (opened_is (slice_get flights k) f is)

pub client_few : (b : Parts) (who : ℕ) (f : Flight) → length b.flights.items ≡ 14 → Flies b who f → who ≤ 14
client_few b who f all flies =
    let lt = flight_within b.flights.items (who - 1) f flies.is in omega (arith, lt, all)

-- the end of an operation, of its parts
pub ends_at : (b b' : Parts) (who : ℕ) (f : Flight) → length b.flights.items ≡ 14 → length b'.flights.items ≡ length b.flights.items
    → flight_at b.flights.items (who - 1) ≡ Some f → flight_at b'.flights.items (who - 1) ≡ None
    → ((k : ℕ) → k ≢ who - 1 → flight_at b'.flights.items k ≡ flight_at b.flights.items k) → b'.sharing ≡ b.sharing
    → b'.reclaiming.cleaning ≡ b.reclaiming.cleaning → Replaces (who - 1) (Some f) None b b'
ends_at b b' who f all clients was now others sharing cleaning = record {
  place = let lt = flight_within b.flights.items (who - 1) f was in omega (arith, lt, all);
  clients = clients;
  was = was;
  now = now;
  others = others;
  sharing = sharing;
  cleaning = cleaning;
}

module _ (who : ℕ) (client : 1 ≤ who) (old new : Option Flight) (b b' : Parts)
    (r : Replaces (who - 1) old new b b') where
  pub few : who ≤ 14
  few = let lt = r.place in omega (arith, lt)

  no_daemon : (q : ℕ) → q ≡ 15 → q ≢ who
  no_daemon q him same = let lt = r.place in omega (arith, lt, him, same)

  no_reclaim : (q : ℕ) → q ≡ 16 → q ≢ who
  no_reclaim q him same = let lt = r.place in omega (arith, lt, him, same)

  apart : (q : ℕ) → 1 ≤ q → q ≢ who → q - 1 ≢ who - 1
  apart q some other same = other (omega (arith, client, some, same))

  pub others_same : SameOthers who b b'
  others_same = record {
    flights = λ q some other. r.others (q - 1) (apart q some other);
    sharing = λ other. r.sharing;
    cleaning = λ other. r.cleaning;
  }

  -- the operation, or that of another
  pub data Whose (q : ℕ) (g : Flight) : Type 0 where
    its_own : q ≡ who → new ≡ Some g → Whose q g
    another : q ≢ who → Flies b q g → Whose q g

  pub whose : (q : ℕ) (g : Flight) → Flies b' q g → Whose q g
  whose q g flies = ⊎_elim
      (λ same. its_own same (sym r.now ∙ ap (λ (n : ℕ). flight_at b'.flights.items (n - 1)) (sym same) ∙ flies.is))
      (λ other. another other (record { client = flies.client; is = sym (r.others (q - 1) (apart q flies.client other)) ∙ flies.is }))
      (cases_eq q who)

  pub was_whose : (q : ℕ) (g : Flight) → Flies b q g
      → ((q ≡ who) × (old ≡ Some g)) ⊎ ((q ≢ who) × Flies b' q g)
  was_whose q g flies = ⊎_elim
      (λ same. inl (same, sym r.was ∙ ap (λ (n : ℕ). flight_at b.flights.items (n - 1)) (sym same) ∙ flies.is))
      (λ other. inr (other, record { client = flies.client; is = r.others (q - 1) (apart q flies.client other) ∙ flies.is }))
      (cases_eq q who)

  pub flies_new : (g : Flight) → new ≡ Some g → Flies b' who g
  flies_new g is = record { client = client; is = r.now ∙ is }

  pub flies_old : (g : Flight) → old ≡ Some g → Flies b who g
  flies_old g is = record { client = client; is = r.was ∙ is }

  -- who had none in flight has only the new one, and the others fly on
  pub flies_on : old ≡ None → (q : ℕ) (g : Flight) → Flies b q g → Flies b' q g
  flies_on none q g flies = ⊎_elim (λ mine. (let clash : None ≡ Some g = sym none ∙ mine.1 in cc clash)) (λ other. other.1) (was_whose q g flies)

  pub flies_other : new ≡ None → (q : ℕ) (g : Flight) → Flies b' q g → (q ≢ who) × Flies b q g
  flies_other none q g flies = by (whose q g flies)
    where
      by : Whose q g → (q ≢ who) × Flies b q g
      by (its_own same is) = let clash : None ≡ Some g = sym none ∙ is in cc clash
      by (another other was) = (other, was)

  -- each operation in flight is as it was planned, where the new one is and those of others are
  pub each_flight : (e : Disk) (t : State) → ((g : Flight) → new ≡ Some g → IsFlight e who g t)
      → ((q : ℕ) (g : Flight) → q ≢ who → Flies b' q g → IsFlight e q g t) → (q : ℕ) (g : Flight) → Flies b' q g → IsFlight e q g t
  each_flight e t own others q g flies = by (whose q g flies)
    where
      by : Whose q g → IsFlight e q g t
      by (its_own same is) = subst (λ (n : ℕ). IsFlight e n g t) (sym same) (own g is)
      by (another other was) = others q g other flies

  -- the map of its file has room for the places of each, where that of the new one has, and others' maps have what they had
  pub each_room : ((g : Flight) (c : DataChange) (n : InodeState) → new ≡ Some g → g.change ≡ Data c → slice_get b'.inodes.items g.ino ≡ Some n
      → length c.blocks.items ≤ n.map.room)
      → ((q : ℕ) (g : Flight) (n : InodeState) → q ≢ who → Flies b q g → slice_get b'.inodes.items g.ino ≡ Some n
      → (m : InodeState) × (slice_get b.inodes.items g.ino ≡ Some m) × (m.map.room ≤ n.map.room))
      → ((q : ℕ) (g : Flight) (c : DataChange) (n : InodeState) → Flies b q g → g.change ≡ Data c → slice_get b.inodes.items g.ino ≡ Some n
      → length c.blocks.items ≤ n.map.room)
      → (q : ℕ) (g : Flight) (c : DataChange) (n : InodeState) → Flies b' q g → g.change ≡ Data c → slice_get b'.inodes.items g.ino ≡ Some n
      → length c.blocks.items ≤ n.map.room
  each_room own others were q g c n flies is at = by (whose q g flies)
    where
      by : Whose q g → length c.blocks.items ≤ n.map.room
      by (its_own same new_is) = own g c n new_is is at
      by (another other was) =
          let had = others q g n other was at in let few = were q g c had.0 was is had.1 in let more = had.2 in omega (arith, few, more)

  -- who holds what
  pub held_then : (q ino : ℕ) → Holds b' q ino
      → ((q ≡ who) × Contains (held_of new) ino) ⊎ ((q ≢ who) × Holds b q ino)
  held_then q ino (by_client g flies has) = by (whose q g flies)
    where
      by : Whose q g → ((q ≡ who) × Contains (held_of new) ino) ⊎ ((q ≢ who) × Holds b q ino)
      by (its_own same is) = inl (same, subst (λ (o : Option Flight). Contains (held_of o) ino) (sym is) has)
      by (another other was) = inr (other, by_client g was has)
  held_then q ino (by_daemon sharing him is same) =
      inr (no_daemon q him, by_daemon sharing him (sym r.sharing ∙ is) same)
  held_then q ino (by_cleaning c him is same) = inr (no_reclaim q him, by_cleaning c him (sym r.cleaning ∙ is) same)

  pub held_before : (q ino : ℕ) → Holds b q ino
      → ((q ≡ who) × Contains (held_of old) ino) ⊎ ((q ≢ who) × Holds b' q ino)
  held_before q ino (by_client g flies has) = by (was_whose q g flies)
    where
      by : ((q ≡ who) × (old ≡ Some g)) ⊎ ((q ≢ who) × Flies b' q g)
          → ((q ≡ who) × Contains (held_of old) ino) ⊎ ((q ≢ who) × Holds b' q ino)
      by (inl mine) = inl (mine.0, subst (λ (o : Option Flight). Contains (held_of o) ino) (sym mine.1) has)
      by (inr other) = inr (other.0, by_client g other.1 has)
  held_before q ino (by_daemon sharing him is same) =
      inr (no_daemon q him, by_daemon sharing him (r.sharing ∙ is) same)
  held_before q ino (by_cleaning c him is same) = inr (no_reclaim q him, by_cleaning c him (r.cleaning ∙ is) same)

  pub holds_new : (ino : ℕ) → Contains (held_of new) ino → Holds b' who ino
  holds_new ino has = by new refl has
    where
      by : (o : Option Flight) → new ≡ o → Contains (held_of o) ino → Holds b' who ino
      by None is none = absurd (omega (arith, none.1))
      by (Some g) is held = by_client g (flies_new g is) held

  pub holds_old : (ino : ℕ) → Contains (held_of old) ino → Holds b who ino
  holds_old ino has = by old refl has
    where
      by : (o : Option Flight) → old ≡ o → Contains (held_of o) ino → Holds b who ino
      by None is none = absurd (omega (arith, none.1))
      by (Some g) is held = by_client g (flies_old g is) held

  -- who has taken what
  pub taken_then : (q page : ℕ) → Takes b' q page
      → ((q ≡ who) × Contains (taken_of new) page) ⊎ ((q ≢ who) × Takes b q page)
  taken_then q page (for_client g flies has) = by (whose q g flies)
    where
      by : Whose q g → ((q ≡ who) × Contains (taken_of new) page) ⊎ ((q ≢ who) × Takes b q page)
      by (its_own same is) = inl (same, subst (λ (o : Option Flight). Contains (taken_of o) page) (sym is) has)
      by (another other was) = inr (other, for_client g was has)
  taken_then q page (for_cleaning c him is has) = inr (no_reclaim q him, for_cleaning c him (sym r.cleaning ∙ is) has)

  pub taken_before : (q page : ℕ) → Takes b q page
      → ((q ≡ who) × Contains (taken_of old) page) ⊎ ((q ≢ who) × Takes b' q page)
  taken_before q page (for_client g flies has) = by (was_whose q g flies)
    where
      by : ((q ≡ who) × (old ≡ Some g)) ⊎ ((q ≢ who) × Flies b' q g)
          → ((q ≡ who) × Contains (taken_of old) page) ⊎ ((q ≢ who) × Takes b' q page)
      by (inl mine) = inl (mine.0, subst (λ (o : Option Flight). Contains (taken_of o) page) (sym mine.1) has)
      by (inr other) = inr (other.0, for_client g other.1 has)
  taken_before q page (for_cleaning c him is has) = inr (no_reclaim q him, for_cleaning c him (r.cleaning ∙ is) has)

  pub takes_new : (page : ℕ) → Contains (taken_of new) page → Takes b' who page
  takes_new page has = by new refl has
    where
      by : (o : Option Flight) → new ≡ o → Contains (taken_of o) page → Takes b' who page
      by None is none = absurd (omega (arith, none.1))
      by (Some g) is took = for_client g (flies_new g is) took

  pub takes_old : (page : ℕ) → Contains (taken_of old) page → Takes b who page
  takes_old page has = by old refl has
    where
      by : (o : Option Flight) → old ≡ o → Contains (taken_of o) page → Takes b who page
      by None is none = absurd (omega (arith, none.1))
      by (Some g) is took = for_client g (flies_old g is) took

  -- what is owed, and what is raised
  pub owed_moved : (kind : Room → ℕ)
      → owed_sum b' kind + kind (owed_to old) ≡ owed_sum b kind + kind (owed_to new)
  owed_moved kind =
      let moved = total-change (λ k. kind (owed_to (flight_at b.flights.items k)))
      (λ k. kind (owed_to (flight_at b'.flights.items k))) 14 (who - 1) r.place
      (λ k other. ap (λ o. kind (owed_to o)) (r.others k other)) in
      let before = ap (λ o. kind (owed_to o)) r.was in
      let after = ap (λ o. kind (owed_to o)) r.now in
      omega (arith, moved, before, after)

  -- so the room that is owed covers what is owed still
  pub owes : MovesOwed old new b b' → b'.reclaiming.raised ≡ b.reclaiming.raised → b'.reclaiming.zero_check ≡ b.reclaiming.zero_check
      → Owes b → Owes b'
  owes moves raised_same zero_same was =
      let units_shared = ap (λ o. units_to_share o) r.sharing in
      let changes_shared = ap (λ o. changes_to_share o) r.sharing in
      let up = ap (λ o. one_if o) raised_same in
      let cleans = ap (λ o. units_to_clean o) r.cleaning in
      let due = ap (λ o. queue_to_clean o) r.cleaning in
      let zero = ap (λ o. one_if o) zero_same in
      let units = owed_moved (λ room. room.units) in
      let trace = owed_moved (λ room. room.trace) in
      let history = owed_moved (λ room. room.history) in
      let queue = owed_moved (λ room. room.queue) in
      let releases = owed_moved (λ room. room.releases) in
      record {
        units = omega (arith, units, moves.units, units_shared, up, zero, cleans, was.units);
        trace = omega (arith, trace, moves.trace, changes_shared, was.trace);
        history = omega (arith, history, moves.history, was.history);
        queue = omega (arith, queue, moves.queue, due, was.queue);
        releases = omega (arith, releases, moves.releases, up, was.releases);
      }

  pub raised_moved : b'.reclaiming.raised ≡ b.reclaiming.raised → (slot : ℕ)
      → raised b' slot + times slot (raised_by old) ≡ raised b slot + times slot (raised_by new)
  raised_moved up slot =
      let moved = total-change (λ k. times slot (raised_by (flight_at b.flights.items k)))
      (λ k. times slot (raised_by (flight_at b'.flights.items k))) 14 (who - 1) r.place
      (λ k other. ap (λ o. times slot (raised_by o)) (r.others k other)) in
      let before = ap (λ o. times slot (raised_by o)) r.was in
      let after = ap (λ o. times slot (raised_by o)) r.now in
      let shared = ap (λ o. times slot (raised_to_share o)) r.sharing in
      let died = ap (λ o. times slot (raised_to_die o)) up in
      omega (arith, moved, before, after, shared, died)

-- an operation that goes on: everybody holds and has taken what he had
module _ (who : ℕ) (client : 1 ≤ who) (f f' : Flight) (b b' : Parts) (r : Replaces (who - 1) (Some f) (Some f') b b')
    (further : IsFurther f f') where
  pub held_was : (q ino : ℕ) → Holds b' q ino → Holds b q ino
  held_was q ino holds = ⊎_elim
      (λ mine. subst (λ (n : ℕ). Holds b n ino) (sym mine.0) (holds_old who client (Some f) (Some f') b b' r ino
      (subst (λ (xs : List ℕ). Contains xs ino) further.held mine.1)))
      (λ other. other.1) (held_then who client (Some f) (Some f') b b' r q ino holds)

  pub holds_on : (q ino : ℕ) → Holds b q ino → Holds b' q ino
  holds_on q ino holds = ⊎_elim
      (λ mine. subst (λ (n : ℕ). Holds b' n ino) (sym mine.0) (holds_new who client (Some f) (Some f') b b' r ino
      (subst (λ (xs : List ℕ). Contains xs ino) (sym further.held) mine.1)))
      (λ other. other.1) (held_before who client (Some f) (Some f') b b' r q ino holds)

  pub took_was : (q page : ℕ) → Takes b' q page → Takes b q page
  took_was q page takes = ⊎_elim
      (λ mine. subst (λ (n : ℕ). Takes b n page) (sym mine.0) (takes_old who client (Some f) (Some f') b b' r page
      (subst (λ (xs : List ℕ). Contains xs page) further.taken mine.1)))
      (λ other. other.1) (taken_then who client (Some f) (Some f') b b' r q page takes)

  pub takes_on : (q page : ℕ) → Takes b q page → Takes b' q page
  takes_on q page takes = ⊎_elim
      (λ mine. subst (λ (n : ℕ). Takes b' n page) (sym mine.0) (takes_new who client (Some f) (Some f') b b' r page
      (subst (λ (xs : List ℕ). Contains xs page) (sym further.taken) mine.1)))
      (λ other. other.1) (taken_before who client (Some f) (Some f') b b' r q page takes)

-- an operation that goes on is the same operation
pub ops_on : (who : ℕ) (f f' : Flight) (b b' : Parts) → 1 ≤ who
    → Replaces (who - 1) (Some f) (Some f') b b' → f'.op ≡ f.op → KeepsOps b b'
ops_on who f f' b b' client r same = record {
  kept = λ q g flies. ⊎_elim
      (λ mine. (f', subst (λ (n : ℕ). Flies b' n f') (sym mine.0) (flies_new who client (Some f) (Some f') b b' r f' refl), same ∙ its g mine.1))
      (λ other. (g, other.1, refl))
      (was_whose who client (Some f) (Some f') b b' r q g flies);
  only = λ q g flies. was q g (whose who client (Some f) (Some f') b b' r q g flies);
}
  where
    its : (g : Flight) → Some f ≡ Some g → f.op ≡ g.op
    its g is = let one : f ≡ g = cc is in ap (λ (h : Flight). h.op) one

    now : (g : Flight) → Some f' ≡ Some g → g.op ≡ f.op
    now g is = let one : f' ≡ g = cc is in ap (λ (h : Flight). h.op) (sym one) ∙ same

    was : (q : ℕ) (g : Flight) → Whose who client (Some f) (Some f') b b' r q g → (h : Flight) × Flies b q h × (g.op ≡ h.op)
    was q g (its_own mine is) =
        (f, subst (λ (n : ℕ). Flies b n f) (sym mine) (flies_old who client (Some f) (Some f') b b' r f refl), now g is)
    was q g (another other flies) = (g, flies, refl)
