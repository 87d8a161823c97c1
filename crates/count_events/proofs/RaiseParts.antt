-- An operation has raised a row: what it leaves of what is kept in memory.
use Rattle.std.proofs.Common.{◌≡◌, ◌≢◌, inl, inr, ℕ, ◌+◌, ◌-◌, ◌<◌, ◌≤◌, List, [], ◌∷◌, length, refl, sym, ◌∙◌, ap, subst, arith}
use Rattle.std.specs.Prelude.{slice_get, slice_index, Option, Some, None, Contains, vec_len, vec_capacity}
use Rattle.std.proofs.lemmas.Bool.{cases_eq}
use Rattle.pm_device.specs.State.{State}
use Rattle.pm_device.specs.Settled.{IsFlushed}
use Rattle.pm_device.proofs.Calls.{settled_is_flushed}
use Rattle.dedupe_queue.specs.declared.Work.{Work}
use Rattle.dn_model.specs.Table.{Row}
use Rattle.dn_model.specs.Disk.{Disk, rows}
use Rattle.law_write.specs.Events.{IsUnused}
use Rattle.law_write.proofs.Counting.{term-le}
use Rattle.law_table_on_disk.specs.BalanceLaws.{RecountsBalanced}
use Rattle.law_table_on_disk.proofs.Balanced.{raise_balance}
use Rattle.fact_table.specs.Table.{HasRow}
use Rattle.fact_counts.specs.Counted.{raised as raised_row, count_changed}
use Rattle.dn_volume.specs.declared.flight.Flight.{Flight}
use Rattle.dn_volume.specs.declared.flight.Change.TheVariants.{Data}
use Rattle.dn_volume.specs.declared.flight.DataChange.{DataChange}
use Rattle.dn_volume.specs.declared.background.Sharing.{Sharing}
use Rattle.dn_volume.specs.declared.background.DyingPlace.{DyingPlace}
use Rattle.dn_volume.specs.declared.volume.InodeState.{InodeState}
use Rattle.dn_volume.specs.declared.volume.Parts.{Parts}
use Rattle.dn_volume.specs.declared.volume.Room.{Room}
use Rattle.dn_volume.specs.Parties.{Flies, flight_at, for_client, taken_by}
use Rattle.dn_volume.specs.Balance.{times, raised, added, dropped, added_to_share}
use Rattle.dn_volume.specs.Flights.{IsFlight, left_by, left_of}
use Rattle.dn_volume.specs.Shares.{IsWaiting, in_queue, is_begun}
use Rattle.dn_volume.specs.Reclaims.{one_if}
use Rattle.dn_volume.specs.Reserve.{owed_to, owed_sum, units_by, HasRoom}
use Rattle.dn_volume.specs.Agrees.{IsVolume}
use Rattle.dn_volume.specs.Rely.{LeavesRest}
use Rattle.dn_volume.proofs.FlightsStay.{flights_stay}
use Rattle.dn_volume.proofs.Tables.{is_table}
use Rattle.dn_volume.specs.Replaces.{Replaces, MovesOwed, IsFurther}
use Rattle.dn_volume.proofs.Raises.{RaisesRow, raised_more}
use Rattle.dn_volume.proofs.Replaced.{others_same, ops_on, held_was, holds_on, took_was, takes_on, each_room, owed_moved, owes}
use Rattle.count_events.specs.Released.{IsWordAfter}
use Rattle.count_events.specs.Raised.{IsToRaise, RaisesOne}
use Rattle.dn_volume.proofs.CountsMoved.{MovesCounts}
use Rattle.count_events.proofs.CountDisk.{leaves_after}
use Rattle.dn_volume.proofs.Hands.{SameHands}
use Rattle.count_events.proofs.Event.{CountsOne, CountEvent}
use Rattle.dn_volume.proofs.Times.{times_first, times_other}
use Rattle.dn_volume.proofs.RowSlots.{balance_at}
use Rattle.count_events.proofs.Flown.{one_more, in_range, same_flight, flight_more}
use Rattle.count_events.proofs.RowsHere.{may_raise, next_row}

some_none : {X : Type 0} (x : X) (r : Option X) → r ≡ None → r ≡ Some x → ⊥
some_none x r none some = cc

-- what it is owed is there
module _ (d : Disk) (b : Parts) (s : State) (v : IsVolume d b s) (who : ℕ) (to : IsToRaise b who) where
  client_in : who - 1 < 14
  client_in = let inside = in_range b who to.flight to.flies in omega (arith, inside, v.flights.clients)

  units_go : units_by (one_more to.flight) to.flight.change + 3 ≡ units_by to.flight to.flight.change
  units_go =
      let was : units_by to.flight to.flight.change ≡ units_by to.flight (Data to.data_change) = ap (units_by to.flight) to.is_data in
      let is : units_by (one_more to.flight) to.flight.change ≡ units_by (one_more to.flight) (Data to.data_change) = ap
      (units_by (one_more to.flight)) to.is_data in
      omega (arith, was, is, to.some)

  owed_here : (kind : Room → ℕ) → kind (owed_to (Some to.flight)) ≤ owed_sum b kind
  owed_here kind =
      let most = term-le (λ k. kind (owed_to (flight_at b.flights.items k))) 14 (who - 1) client_in in
      let was : kind (owed_to (flight_at b.flights.items (who - 1))) ≡ kind (owed_to (Some to.flight)) = ap (λ (r : Option Flight). kind (owed_to r))
      to.flies.is in
      omega (arith, most, was)

  pub owes_3_units : 3 ≤ b.owed.units
  owes_3_units = omega (arith, owed_here (λ room. room.units), units_go, v.room.owes.units)

  pub owes_1_change : 1 ≤ b.owed.trace
  owes_1_change = omega (arith, owed_here (λ room. room.trace), to.some, v.room.owes.trace)

  pub has_trace : vec_len b.trace < vec_capacity b.trace
  has_trace = omega (arith, owes_1_change, v.room.trace)

  pub has_units : 3 ≤ s.spare
  has_units = omega (arith, owes_3_units, v.room.units)

  -- how many events are left
  pub left_falls : left_of to.flight ≡ ((length to.flight.rows.items - (to.flight.raised + 1)) + 1) + 1
  left_falls = ap (left_by to.flight) to.is_data ∙ ends (length to.data_change.blocks.items) to.data_change.filled (length to.flight.rows.items)
      to.flight.raised to.filled to.some
    where
      ends : (blocks filled rows raised : ℕ) → filled ≡ blocks → raised < rows → (blocks - filled) + (rows - raised) + 1 ≡ ((rows - (raised + 1)) + 1)
          + 1
      ends blocks filled rows raised is some = omega (arith, is, some)

  pub left_now : left_of (one_more to.flight) ≡ (length to.flight.rows.items - (to.flight.raised + 1)) + 1
  left_now = ap (left_by (one_more to.flight)) to.is_data ∙ ends (length to.data_change.blocks.items) to.data_change.filled
      (length to.flight.rows.items) (to.flight.raised + 1) to.filled
    where
      ends : (blocks filled rows raised : ℕ) → filled ≡ blocks → (blocks - filled) + (rows - raised) + 1 ≡ (rows - raised) + 1
      ends blocks filled rows raised is = omega (arith, is)

module _ (d : Disk) (b b' : Parts) (s u : State) (v : IsVolume d b s) (who slot word : ℕ) (to : IsToRaise b who)
    (change : RaisesOne who slot word b b')
    (slot_is : slot ≡ slice_index to.flight.rows.items to.flight.raised) where
  abbrev f : Flight
  f = to.flight

  abbrev its : HasRow d slot
  its = subst (HasRow d) (sym slot_is) (next_row d b s v who f to.data_change to.flies to.is_data to.some)

  abbrev row : Row
  row = its.row

  client : who - 1 < 14
  client = client_in d b s v who to

  units_fall : units_by (one_more f) f.change + 3 ≡ units_by f f.change
  units_fall = units_go d b s v who to

  owes_units : 3 ≤ b.owed.units
  owes_units = owes_3_units d b s v who to

  owes_trace : 1 ≤ b.owed.trace
  owes_trace = owes_1_change d b s v who to

  flies_after : Flies b' who (one_more f)
  flies_after = record { client = to.flies.client; is = change.flight f to.flies }

  -- the operation goes on
  replaces : Replaces (who - 1) (Some f) (Some (one_more f)) b b'
  replaces = record {
    place = client;
    clients = change.clients;
    was = to.flies.is;
    now = flies_after.is;
    others = change.others;
    sharing = change.sharing;
    cleaning = change.kept.cleaning;
  }

  further : IsFurther f (one_more f)
  further = record { op = refl; held = refl; taken = refl }

  waits_still : (ino at : ℕ) → IsWaiting b ino at → IsWaiting b' ino at
  waits_still ino at (in_queue work n has of_ino of_slot is round) =
      in_queue work n (subst (λ (ws : List Work). Contains ws work) (sym change.kept.queue) has) of_ino of_slot
      (ap (λ (ns : List InodeState). slice_get ns ino) change.kept.inodes ∙ is) round
  waits_still ino at (is_begun item is of_ino of_slot) = is_begun item (change.sharing ∙ is) of_ino of_slot

  hands : SameHands b b'
  hands = record {
    holds = holds_on who to.flies.client f (one_more f) b b' replaces further;
    held = held_was who to.flies.client f (one_more f) b b' replaces further;
    takes = takes_on who to.flies.client f (one_more f) b b' replaces further;
    taken = took_was who to.flies.client f (one_more f) b b' replaces further;
    waits = waits_still;
  }

  -- what is under way
  raises : RaisesRow b b' who f (one_more f)
  raises = record {
    client = to.flies.client;
    replaces = replaces;
    some = to.some;
    rows_same = refl;
    one_more = omega arith;
    dying = change.raised;
  }

  raised_now : (x : ℕ) → raised b' x ≡ raised b x + times x (slot ∷ [])
  raised_now x = raised_more b b' who f (one_more f) raises x ∙ ap (λ (n : ℕ). raised b x + times x (n ∷ [])) (sym slot_is)

  added_still : (x : ℕ) → added b' x ≡ added b x
  added_still x = ap (λ (r : Option Sharing). times x (added_to_share r)) change.sharing

  dropped_still : (x : ℕ) → dropped b' x ≡ dropped b x
  dropped_still x = ap (times x) change.releases

  raised_here : raised b' slot ≡ raised b slot + 1
  raised_here = raised_now slot ∙ ap (λ (n : ℕ). raised b slot + n) (times_first slot [])

  raised_other : (x : ℕ) → x ≢ slot → raised b' x ≡ raised b x
  raised_other x ne = let moved = raised_now x in let none = times_other x slot [] ne in omega (arith, moved, none)

  balanced_after : RecountsBalanced d row row.rfc (row.uc + 1) (raised b' slot) (added b' slot) (dropped b' slot)
  balanced_after =
      let may = raise_balance d row v.fast.valid its.is.there (raised b slot) (added b slot) (dropped b slot) (balance_at d b s v slot row its.is)
      (may_raise d b s v slot row its.is) in
      record {
        may = may.may;
        balanced = record {
          updates = omega (arith, may.balanced.updates, raised_here, added_still slot, dropped_still slot);
          references = omega (arith, may.balanced.references, added_still slot, dropped_still slot);
        };
      }

  -- the room
  one_raised : one_if b'.reclaiming.raised ≡ one_if b.reclaiming.raised
  one_raised = ap (λ (x : Option DyingPlace). one_if x) change.raised

  one_zero : one_if b'.reclaiming.zero_check ≡ one_if b.reclaiming.zero_check
  one_zero = ap (λ (x : Option ℕ). one_if x) change.zero_check

  long_still : length b'.reclaiming.releases.items ≡ length b.reclaiming.releases.items
  long_still = ap (λ (xs : List ℕ). length xs) change.releases

  moves : MovesCounts d b b' row row.rfc (row.uc + 1)
  moves = record {
    here = subst (λ (x : ℕ). RecountsBalanced d row row.rfc (row.uc + 1) (raised b' x) (added b' x) (dropped b' x)) (sym its.is.slot_is)
        balanced_after;
    others = λ x ne. record {
      raised_same = raised_other x (λ is. ne (is ∙ sym its.is.slot_is));
      added_same = added_still x;
      dropped_same = dropped_still x;
    };
    zero = λ none no_update. absurd (omega (arith, no_update));
    zero_kept = λ x ne checked. change.zero_check ∙ checked;
    few = omega (
      arith,
      v.counts.few,
      long_still,
      owed_moved who to.flies.client (Some f) (Some (one_more f)) b b' replaces (λ room. room.releases),
      one_raised,
    );
  }

  owed_units : b'.owed.units ≡ b.owed.units - 3
  owed_units = ap (λ (r : Room). r.units) change.owed

  owed_trace : b'.owed.trace ≡ b.owed.trace - 1
  owed_trace = ap (λ (r : Room). r.trace) change.owed

  owed_history : b'.owed.history ≡ b.owed.history
  owed_history = ap (λ (r : Room). r.history) change.owed

  owed_queue : b'.owed.queue ≡ b.owed.queue
  owed_queue = ap (λ (r : Room). r.queue) change.owed

  owed_releases : b'.owed.releases ≡ b.owed.releases
  owed_releases = ap (λ (r : Room). r.releases) change.owed

  moves_owed : MovesOwed (Some f) (Some (one_more f)) b b'
  moves_owed = record {
    units = omega (arith, units_fall, owed_units, owes_units);
    trace = omega (arith, to.some, owed_trace, owes_trace);
    history = omega (arith, owed_history);
    queue = omega (arith, owed_queue);
    releases = omega (arith, owed_releases);
  }

  places_still : (q : ℕ) (g : Flight) (c : DataChange) (n : InodeState) → Flies b' q g → g.change ≡ Data c → slice_get b'.inodes.items g.ino ≡ Some n
      → length c.blocks.items ≤ n.map.room
  places_still = each_room who to.flies.client (Some f) (Some (one_more f)) b b' replaces
      (λ g c n is kind at. own_room g c n (is_it g is) kind (there g n at)) (λ q g n other flies at. (n, there g n at, omega arith)) v.room.places
    where
      there : (g : Flight) (n : InodeState) → slice_get b'.inodes.items g.ino ≡ Some n → slice_get b.inodes.items g.ino ≡ Some n
      there g n at = ap (λ (ns : List InodeState). slice_get ns g.ino) (sym change.kept.inodes) ∙ at

      is_it : (g : Flight) → Some (one_more f) ≡ Some g → one_more f ≡ g
      is_it g is = cc

      own_room : (g : Flight) (c : DataChange) (n : InodeState) → one_more f ≡ g → g.change ≡ Data c → slice_get b.inodes.items g.ino ≡ Some n
          → length c.blocks.items ≤ n.map.room
      own_room g c n one kind at = v.room.places who f c n to.flies (ap (λ (h : Flight). h.change) one ∙ kind)
          (subst (λ (h : Flight). slice_get b.inodes.items h.ino ≡ Some n) (sym one) at)

  module _ (spare : s.spare ≤ u.spare + 3) where
    room : HasRoom b' u
    room = record {
      owes = owes who to.flies.client (Some f) (Some (one_more f)) b b' replaces moves_owed change.raised change.zero_check v.room.owes;
      units = omega (arith, v.room.units, owed_units, spare, owes_units);
      trace = omega (arith, v.room.trace, change.trace_len, change.trace_capacity, owed_trace, owes_trace);
      history = omega (arith, v.room.history, change.kept.history_len, change.kept.history_capacity, owed_history);
      queue = omega (arith, v.room.queue, change.kept.queue_room, owed_queue);
      releases = omega (arith, v.room.releases, change.len, change.capacity, owed_releases);
      names = omega (arith, v.room.names, change.kept.names_room, owed_history);
      places = places_still;
    }

    module _ (counted : CountsOne raised_row who d b s u slot row) (is_word : IsWordAfter raised_row s.now b.fact slot word) where
      abbrev e : Disk
      e = count_changed raised_row d slot row

      may : RecountsBalanced d row row.rfc (row.uc + 1) (raised b' slot) (added b' slot) (dropped b' slot)
      may = balanced_after

      leaves_rest : LeavesRest who [] [] d e s u
      leaves_rest = leaves_after raised_row who d b.fact row slot s u b.geometry counted.at_slot v.fast (is_table d b s v) may.may counted.only
          counted.others

      -- what the actor itself had flushed is flushed still
      leaves_all : LeavesRest (who + 1) [] [] d e s u
      leaves_all = record {
        rest = leaves_rest.rest;
        only = leaves_rest.only;
        others = λ q a ne out inside flushed. elim (cases_eq q who) [
          | inl me ↦ settled_is_flushed u q a (counted.own.own a inside (subst (λ (x : ℕ). IsFlushed x s a) me flushed))
          | inr other ↦ leaves_rest.others q a other out inside flushed
        ];
      }

      taken_unused : (page : ℕ) → Contains (taken_by f) page → IsUnused d page
      taken_unused page has = v.space.unused page (λ none. let is = v.space.takes who page (for_client f to.flies has) in
          let some = to.flies.client in omega (arith, is, some, none))

      flight_still : IsFlight e who f u
      flight_still = flights_stay (who + 1) who [] [] d e s u f (λ is. omega (arith, is)) v.fast.valid v.fast.long leaves_all
          (λ page has. absurd (omega (arith, has.1)))
          (λ i held has. absurd (omega (arith, has.1))) (λ page taken has. absurd (omega (arith, has.1))) taken_unused (v.flights.each who f to.flies)

      mine : (g : Flight) → Flies b' who g → IsFlight e who g u
      mine g flies = subst (λ (h : Flight). IsFlight e who h u) (sym (same_flight b' who g (one_more f) flies flies_after)) (flight_more e who f to.data_change u to.is_data
          to.filled to.some flight_still)

      pub raise_event : CountEvent raised_row who d b b' s u slot word row
      raise_event = record {
        counted = counted;
        moves = moves;
        kept = change.kept;
        hands = hands;
        same = others_same who to.flies.client (Some f) (Some (one_more f)) b b' replaces;
        ops = ops_on who f (one_more f) b b' to.flies.client replaces refl;
        running = change.stopped;
        clients = change.clients;
        mine = mine;
        shares = λ is. absurd (omega (arith, is, client));
        dying = λ ne. change.raised;
        raised = λ is. absurd (omega (arith, is, client));
        waiting = omega (arith, v.reclaiming.waiting, change.waiting, one_raised, one_zero, long_still);
        checked = λ x at. v.reclaiming.zero_check x (sym change.zero_check ∙ at);
        room = room;
        trace = change.trace;
        word_is = is_word d row (is_table d b s v) its.is;
        made = change.made;
      }
