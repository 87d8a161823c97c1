-- The daemon has raised the row of a page that is to be shared.
use Rattle.std.proofs.Common.{◌≡◌, inl, inr, ⊎_elim, ℕ, ◌+◌, ◌-◌, ◌^◌, ◌<◌, ◌≤◌, false, List, [], ◌∷◌, length, refl, sym, ◌∙◌, ap, subst, arith}
use Rattle.std.specs.Prelude.{Option, Some, None, IsSome, vec_len, vec_capacity}
use Rattle.pm_device.specs.State.{State, Agree, Rose}
use Rattle.pm_device.specs.Settled.{StoresOnly, KeepsFlushed, Others, SettlesAll}
use Rattle.pm_layout.specs.Geometry.{slot_word}
use Rattle.dn_model.specs.Table.{Row, row_of}
use Rattle.dn_model.specs.Disk.{Disk, rows}
use Rattle.dn_model.specs.Own.{Print, IsAlone, page_bytes, HasRow as PageHasRow}
use Rattle.law_table.specs.Changes.{recount}
use Rattle.law_table.proofs.Rows.{row_found, row_listed, none_found, none_listed}
use Rattle.law_table.proofs.Counted.{recounts_rows}
use Rattle.law_table_on_disk.specs.BalanceLaws.{RecountsBalanced}
use Rattle.law_table_on_disk.proofs.Balanced.{raise_balance}
use Rattle.law_table_on_disk.proofs.Frame.{maps_same}
use Rattle.fact_counts.specs.Standing.{HasRowWith}
use Rattle.fact_counts.specs.Counted.{raised as raised_row, MayRaise, LeavesTables, SettlesTable, count_changed}
use Rattle.dn_volume.specs.declared.units.TheConstants.{LOOK_UNITS}
use Rattle.dn_volume.specs.declared.flight.Flight.{Flight}
use Rattle.dn_volume.specs.declared.background.Sharing.{Sharing}
use Rattle.dn_volume.specs.declared.background.SharingStep.{SharingStep}
use Rattle.dn_volume.specs.declared.background.SharingStep.TheVariants.{Remap}
use Rattle.dn_volume.specs.declared.volume.Parts.{Parts}
use Rattle.dn_volume.specs.declared.volume.Volume.{Volume}
use Rattle.dn_volume.specs.Parties.{flight_at}
use Rattle.dn_volume.specs.Balance.{times, raised, added, dropped}
use Rattle.dn_volume.specs.Shares.{IsSharing, IsBegun, Shares}
use Rattle.dn_volume.specs.Agrees.{IsVolume, Agrees, agrees_with, is_stopped}
use Rattle.dn_volume.specs.Events.{MovesOn, Breaks}
use Rattle.dn_volume.specs.Works.{DaemonLowers, sharing_events}
use Rattle.dn_volume.proofs.CountsMoved.{MovesCounts}
use Rattle.dn_volume.proofs.HandsKept.{flies_before}
use Rattle.dn_volume.proofs.Kept.{ops_same}
use Rattle.dn_volume.proofs.RowSlots.{balance_at}
use Rattle.dn_volume.proofs.Tables.{is_table, running_disk}
use Rattle.dn_volume.proofs.Times.{times_first, times_other}
use Rattle.count_events.specs.Released.{KeepsParts, Stops, IsWordAfter}
use Rattle.count_events.proofs.Event.{CountsOne, CountEvent, event_moves, event_stopped, event_breaks}
use Rattle.count_events.proofs.RowsHere.{may_raise}
use Rattle.count_events.proofs.Settled.{no_client}
use Rattle.dedupe_daemon.proofs.AtPlace.{IsAtLook, IsAtPlace, IsToShare}
use Rattle.dedupe_daemon.specs.Stepped.{Looks}
use Rattle.dedupe_daemon.proofs.InsertEvent.{item_begun}
use Rattle.dedupe_daemon.proofs.ItemFew.{item_few}
use Rattle.dedupe_daemon.proofs.LookedParts.{
  look_hands,
  look_owes_units,
  look_owes_change,
  look_has_trace,
  look_has_units,
  look_lowers,
  now_is,
  same_now,
  raised_more,
  added_was,
  added_now,
  dropped_still,
  one_raised,
  one_zero,
  long_still,
  owed_still,
  look_room,
}

bytes_still : (d : Disk) (slot : ℕ) (row : Row) (page : ℕ) → page_bytes (count_changed raised_row d slot row) page ≡ page_bytes d page
unfolding page_bytes
bytes_still d slot row page = refl

-- what is kept, where the table is too
pub looks_keeps : (next : SharingStep) (slot word units : ℕ) (b b' : Parts) → Looks next slot word units b b' → b'.fact ≡ b.fact → KeepsParts b b'
looks_keeps next slot word units b b' is fact = record {
  geometry = is.geometry;
  free = is.free;
  names = is.names;
  names_room = is.names_room;
  inodes = is.inodes;
  fact = fact;
  queue = is.queue;
  queue_room = is.queue_room;
  history = is.history;
  history_len = is.history_len;
  history_capacity = is.history_capacity;
  cleaning = is.cleaning;
}

module _ (d : Disk) (b : Parts) (s : State) (v : IsVolume d b s) (slot : ℕ) (to : IsToShare d b slot) where
  abbrev row : Row
  row = to.row

  abbrev at : IsAtPlace d b to.page
  at = to.place

  abbrev looks : IsAtLook b
  looks = at.looks

  abbrev item : Sharing
  item = looks.sharing

  pub share_may : MayRaise row
  share_may = may_raise d b s v slot row to.at_slot

  pub share_recounts : RecountsBalanced d row row.rfc (row.uc + 1) (raised b slot + 1) (added b slot) (dropped b slot)
  share_recounts = raise_balance d row v.fast.valid to.at_slot.there (raised b slot) (added b slot) (dropped b slot)
      (balance_at d b s v slot row to.at_slot) share_may

  module _ (b' : Parts) (u : State) (word : ℕ) (change : Looks (Remap slot) slot word LOOK_UNITS b b') (fact : b'.fact ≡ b.fact) where
    abbrev e : Disk
    e = count_changed raised_row d slot row

    raised_here : (x : ℕ) → raised b' x ≡ raised b x + times x (slot ∷ [])
    raised_here x = raised_more b looks b' (Remap slot) slot word LOOK_UNITS change x

    added_here : (x : ℕ) → added b' x ≡ added b x
    added_here x = added_now b looks b' (Remap slot) slot word LOOK_UNITS change x ∙ sym (added_was b looks x)

    dropped_here : (x : ℕ) → dropped b' x ≡ dropped b x
    dropped_here x = dropped_still b looks b' (Remap slot) slot word LOOK_UNITS change x

    raised_one : raised b' slot ≡ raised b slot + 1
    raised_one = omega (arith, raised_here slot, times_first slot [])

    balanced_after : RecountsBalanced d row row.rfc (row.uc + 1) (raised b' slot) (added b' slot) (dropped b' slot)
    balanced_after =
        subst (λ (n : ℕ). RecountsBalanced d row row.rfc (row.uc + 1) n (added b' slot) (dropped b' slot)) (sym raised_one)
        (subst (λ (n : ℕ). RecountsBalanced d row row.rfc (row.uc + 1) (raised b slot + 1) n (dropped b' slot)) (sym (added_here slot))
        (subst (λ (n : ℕ). RecountsBalanced d row row.rfc (row.uc + 1) (raised b slot + 1) (added b slot) n) (sym (dropped_here slot))
        share_recounts))

    moves : MovesCounts d b b' row row.rfc (row.uc + 1)
    moves = record {
      here = subst (λ (x : ℕ). RecountsBalanced d row row.rfc (row.uc + 1) (raised b' x) (added b' x) (dropped b' x)) (sym to.at_slot.slot_is)
          balanced_after;
      others = λ x ne. record {
        raised_same = omega (arith, raised_here x, times_other x slot [] (λ is. ne (is ∙ sym to.at_slot.slot_is)));
        added_same = added_here x;
        dropped_same = dropped_here x;
      };
      zero = λ none no_update. absurd (omega (arith, no_update));
      zero_kept = λ x ne checked. change.zero_check ∙ checked;
      few = let long = long_still b looks b' (Remap slot) slot word LOOK_UNITS change in
          let sum = owed_still b looks b' (Remap slot) slot word LOOK_UNITS change (λ room. room.releases) in
          let one = one_raised b looks b' (Remap slot) slot word LOOK_UNITS change in
          omega (arith, v.counts.few, long, sum, one);
    }

    -- the item goes on
    has_still : (page : ℕ) → PageHasRow d page → PageHasRow e page
    has_still page some =
        let found = row_listed (rows d) page some in
        subst (λ (p : ℕ). IsSome (row_of (rows e) p)) found.2 (row_found (rows e) (recount slot row.rfc (row.uc + 1) found.0)
        ((recounts_rows d slot row.rfc (row.uc + 1)).kept found.0 found.1))

    begun_was : IsBegun d item
    begun_was = item_begun d b s v to.page at

    abbrev now : Sharing
    now = record item { step = Remap slot }

    item_now : IsSharing e now
    item_now = record {
      begun = record {
        file = begun_was.file;
        in_table = begun_was.in_table;
        live = begun_was.live;
        block = begun_was.block;
        size = begun_was.size;
        mask = begun_was.mask;
        item = begun_was.item;
        done_few = begun_was.done_few;
        done_so = λ i m lt mapped by_item. ⊎_elim (λ (alone : IsAlone m). inl alone) (λ (has : PageHasRow d m.block). inr (has_still m.block has))
            (begun_was.done_so i m lt (sym (maps_same d e.chain e.pointer item.work.ino (item.first + i)) ∙ mapped) by_item);
      };
      step = record {
        some = looks.some;
        by = at.by;
        mapped = maps_same d e.chain e.pointer item.work.ino (item.first + item.done) ∙ at.mapped;
        by_item = at.by_item;
        no_row = none_found (rows e) at.by.block (λ r has same. let was = (recounts_rows d slot row.rfc (row.uc + 1)).only r has in
            none_listed (rows d) to.page at.no_row was.0 was.1 (ap (λ (x : Row). x.page) was.2 ∙ same ∙ at.on_page));
        row = recount slot row.rfc (row.uc + 1) row;
        at_slot = record {
          there = (recounts_rows d slot row.rfc (row.uc + 1)).kept row to.at_slot.there;
          slot_is = to.at_slot.slot_is;
        };
        equal = bytes_still d slot row row.page ∙ to.equal ∙ ap (page_bytes d) (sym at.on_page) ∙ sym (bytes_still d slot row at.by.block);
      };
    }

    shares : Shares e b'
    shares x is = subst (IsSharing e) (same_now b looks b' (Remap slot) slot word LOOK_UNITS change x is) item_now

    pub share_raised : s.spare ≤ u.spare + 3 → CountsOne raised_row 15 d b s u slot row → IsWordAfter raised_row s.now b.fact slot word
        → CountEvent raised_row 15 d b b' s u slot word row
    share_raised spare counted is_word = record {
      counted = counted;
      moves = moves;
      kept = looks_keeps (Remap slot) slot word LOOK_UNITS b b' change fact;
      hands = look_hands b looks b' (Remap slot) slot word LOOK_UNITS change;
      same = record {
        flights = λ q some ne. ap (λ (fs : List (Option Flight)). flight_at fs (q - 1)) change.flights;
        sharing = λ ne. absurd (ne refl);
        cleaning = λ ne. change.cleaning;
      };
      ops = ops_same b b' change.flights;
      running = change.stopped;
      clients = ap (λ (fs : List (Option Flight)). length fs) change.flights;
      mine = λ f flies. absurd (no_client b 15 f v.flights.clients (omega arith) (flies_before b b' change.flights 15 f flies));
      shares = λ is. shares;
      dying = λ ne. change.raised;
      raised = λ is. absurd (omega (arith, is));
      waiting = let long = long_still b looks b' (Remap slot) slot word LOOK_UNITS change in
          let one = one_raised b looks b' (Remap slot) slot word LOOK_UNITS change in
          let zero' = one_zero b looks b' (Remap slot) slot word LOOK_UNITS change in
          omega (arith, v.reclaiming.waiting, change.waiting, one, zero', long);
      checked = λ x is. v.reclaiming.zero_check x (sym change.zero_check ∙ is);
      room = look_room b looks b' (Remap slot) slot word LOOK_UNITS change d s u v refl (omega arith) refl (omega (arith, spare));
      trace = change.trace;
      word_is = is_word d row (is_table d b s v) to.at_slot;
      made = change.made;
    }

-- the event, from what its calls give
module _ {D F : Type 0} (state : D → State) (print : Print) (w : Volume D F) (slot : ℕ)
    (to : (d : Disk) → IsVolume d w.parts (state w.device) → IsToShare d w.parts slot) where
  module _ (agrees : Agrees state w) (running : w.parts.stopped ≡ false) where
    abbrev found : (d : Disk) × IsVolume d w.parts (state w.device)
    found = running_disk state w running agrees

    abbrev has : IsToShare found.0 w.parts slot
    has = to found.0 found.1

    pub raise_may : HasRowWith (state w.device).now w.parts.fact slot MayRaise
    raise_may = record {
      disk = found.0;
      table = is_table found.0 w.parts (state w.device) found.1;
      row = has.row;
      at_slot = has.at_slot;
      has = share_may found.0 w.parts (state w.device) found.1 slot has;
    }

    pub raise_looks : IsAtLook w.parts
    raise_looks = has.place.looks

    pub raise_spare : 3 ≤ (state w.device).spare
    raise_spare = omega (arith, look_has_units w.parts has.place.looks found.0 (state w.device) found.1)

    pub raise_trace : vec_len w.parts.trace < vec_capacity w.parts.trace
    raise_trace = look_has_trace w.parts has.place.looks found.0 (state w.device) found.1

    pub raise_units : LOOK_UNITS ≤ w.parts.owed.units
    raise_units = omega (arith, look_owes_units w.parts has.place.looks found.0 (state w.device) found.1)

    pub raise_change : 1 ≤ w.parts.owed.trace
    raise_change = look_owes_change w.parts has.place.looks found.0 (state w.device) found.1

    pub raise_few : (b' : Parts) (word units : ℕ) → Looks (Remap slot) slot word units w.parts b'
        → (x : Sharing) × ((b'.sharing ≡ Some x) × (x.count < 2 ^ 32))
    raise_few b' word units change = (
      _,
      (
        now_is w.parts has.place.looks b' (Remap slot) slot word units change,
        item_few found.0 found.1.fast.valid has.place.looks.sharing (found.1.sharing has.place.looks.sharing has.place.looks.begun).begun,
      ),
    )

  module _ (w' : Volume D F) (only : StoresOnly (λ a. a ≡ slot_word w.parts.fact.geometry slot 4) (state w.device) (state w'.device))
      (agree : Agree (state w'.device).now (state w'.device).past)
      (leaves : LeavesTables raised_row w.parts.fact slot (state w.device) (state w'.device))
      (faults : (state w.device).faults ≤ (state w'.device).faults) (d : Disk) (v : IsVolume d w.parts (state w.device)) where
    module _ (stops : Stops w.parts w'.parts) where
      pub raise_stops : Agrees state w'
      raise_stops = is_stopped (event_stopped state print raised_row 15 w w' d slot 0 (to d v).row v (to d v).at_slot
          (share_recounts d w.parts (state w.device) v slot (to d v)).may stops only)

      pub raise_fails : Rose (state w.device).faults (state w'.device).faults → Breaks state print 15 None w w' d
      raise_fails rose = event_breaks state print raised_row 15 w w' d slot 0 (to d v).row v (to d v).at_slot
          (share_recounts d w.parts (state w.device) v slot (to d v)).may stops only agree leaves faults rose

    module _ (word : ℕ) (change : Looks (Remap slot) slot word LOOK_UNITS w.parts w'.parts) (fact : w'.parts.fact ≡ w.parts.fact)
        (settles : SettlesTable raised_row w.parts.fact slot (state w.device) (state w'.device)) (own : SettlesAll 15 (state w.device)
        (state w'.device))
        (others : KeepsFlushed (Others 15) (λ a. a ≡ slot_word w.parts.fact.geometry slot 4) (state w.device) (state w'.device))
        (is_word : IsWordAfter raised_row (state w.device).now w.parts.fact slot word)
        (spare : (state w.device).spare ≤ (state w'.device).spare + 3) where
      counted : CountsOne raised_row 15 d w.parts (state w.device) (state w'.device) slot (to d v).row
      counted = record {
        at_slot = (to d v).at_slot;
        only = only;
        leaves = leaves;
        settles = settles;
        own = own;
        others = others;
        faults = faults;
      }

      pub raise_moves : MovesOn state print 15 w w' d
      raise_moves = event_moves state print raised_row 15 w w' d slot word (to d v).row v agree
          (share_raised d w.parts (state w.device) v slot (to d v) w'.parts (state w'.device) word change fact spare counted is_word)

      pub raise_lowers : DaemonLowers w.parts w'.parts (sharing_events w'.parts.sharing)
      raise_lowers = look_lowers w.parts (to d v).place.looks w'.parts (Remap slot) slot word LOOK_UNITS change (omega arith)

pub moved_agrees : {D F : Type 0} (state : D → State) (print : Print) (who : ℕ) (w w' : Volume D F) (d : Disk) → MovesOn state print who w w' d
    → Agrees state w'
moved_agrees state print who w w' d moved = agrees_with moved.after moved.moves.volume
