-- The event of a raise, from what its calls give.
use Rattle.std.proofs.Common.{◌≡◌, ◌≢◌, ℕ, ◌+◌, ◌-◌, ◌<◌, ◌≤◌, Bool, false, length, refl, sym, ◌∙◌, ap, subst, arith}
use Rattle.std.specs.Prelude.{slice_index, Option, Some, None, if◌then◌else◌, vec_len, vec_capacity}
use Rattle.pm_device.specs.State.{State, Agree, Rose}
use Rattle.pm_device.specs.Settled.{StoresOnly, KeepsFlushed, Others, SettlesAll}
use Rattle.pm_layout.specs.Geometry.{slot_word}
use Rattle.dn_model.specs.Disk.{Disk}
use Rattle.dn_model.specs.Own.{Print}
use Rattle.dn_model.specs.declared.op.Op.{Op}
use Rattle.law_table.proofs.Rows.{other_test}
use Rattle.law_table_on_disk.specs.CountLaws.{MayRecount}
use Rattle.law_table_on_disk.proofs.Balanced.{raise_balance}
use Rattle.fact_table.specs.Table.{HasRow}
use Rattle.fact_counts.specs.Standing.{HasRowWith}
use Rattle.fact_counts.specs.Counted.{raised, MayRaise, LeavesTables, SettlesTable}
use Rattle.dn_volume.specs.declared.flight.Flight.{Flight}
use Rattle.dn_volume.specs.declared.volume.Parts.{Parts}
use Rattle.dn_volume.specs.declared.volume.Volume.{Volume}
use Rattle.dn_volume.specs.Balance.{raised as raised_there, added, dropped}
use Rattle.dn_volume.specs.Parties.{Flies}
use Rattle.dn_volume.specs.Flights.{left_of}
use Rattle.dn_volume.specs.Agrees.{IsVolume, Agrees, agrees_with, is_stopped}
use Rattle.dn_volume.specs.Events.{MovesOn, Breaks, InFlight, answered_by}
use Rattle.dn_volume.proofs.Tables.{is_table, running_disk}
use Rattle.count_events.specs.Released.{Stops, IsWordAfter}
use Rattle.count_events.specs.Raised.{IsToRaise, RaisesOne}
use Rattle.count_events.proofs.Event.{event_moves, event_stopped, event_breaks}
use Rattle.dn_volume.proofs.RowSlots.{balance_at}
use Rattle.count_events.proofs.Flown.{one_more, same_flight}
use Rattle.count_events.proofs.RowsHere.{may_raise, next_row}
use Rattle.count_events.proofs.RaiseParts.{raise_event, left_falls, left_now, owes_3_units, owes_1_change, has_trace, has_units}

module _ {D F : Type 0} (state : D → State) (w : Volume D F) (who slot : ℕ) (to : IsToRaise w.parts who)
    (slot_is : slot ≡ slice_index to.flight.rows.items to.flight.raised) where
  abbrev row_at : (d : Disk) → IsVolume d w.parts (state w.device) → HasRow d slot
  row_at d v = subst (HasRow d) (sym slot_is) (next_row d w.parts (state w.device) v who to.flight to.data_change to.flies to.is_data to.some)

  may : (d : Disk) (v : IsVolume d w.parts (state w.device)) → MayRecount d (row_at d v).row (row_at d v).row.rfc ((row_at d v).row.uc + 1)
  may d v =
      let has = row_at d v in
      (raise_balance d has.row v.fast.valid has.is.there (raised_there w.parts slot) (added w.parts slot) (dropped w.parts slot)
      (balance_at d w.parts (state w.device) v slot has.row has.is) (may_raise d w.parts (state w.device) v slot has.row has.is)).may

  module _ (agrees : Agrees state w) (running : w.parts.stopped ≡ false) where
    pub row_may_raise : HasRowWith (state w.device).now w.parts.fact slot MayRaise
    row_may_raise =
        let found = running_disk state w running agrees in
        let has = row_at found.0 found.1 in
        record {
          disk = found.0;
          table = is_table found.0 w.parts (state w.device) found.1;
          row = has.row;
          at_slot = has.is;
          has = may_raise found.0
              w.parts (state w.device) found.1 slot has.row has.is;
        }

    pub units_there : 3 ≤ (state w.device).spare
    units_there = let found = running_disk state w running agrees in has_units found.0 w.parts (state w.device) found.1 who to

    pub trace_there : vec_len w.parts.trace < vec_capacity w.parts.trace
    trace_there = let found = running_disk state w running agrees in has_trace found.0 w.parts (state w.device) found.1 who to

    pub units_owed : 3 ≤ w.parts.owed.units
    units_owed = let found = running_disk state w running agrees in owes_3_units found.0 w.parts (state w.device) found.1 who to

    pub change_owed : 1 ≤ w.parts.owed.trace
    change_owed = let found = running_disk state w running agrees in owes_1_change found.0 w.parts (state w.device) found.1 who to

  pub flies_now : (b' : Parts) (word : ℕ) → RaisesOne who slot word w.parts b' → Flies b' who (one_more to.flight)
  flies_now b' word change = record { client = to.flies.client; is = change.flight to.flight to.flies }

  pub raise_flies : (b' : Parts) (word left : ℕ) → RaisesOne who slot word w.parts b'
      → ((g : Flight) → Flies b' who g → left ≡ (length g.rows.items - g.raised) + 1) → (d : Disk) → IsVolume d w.parts (state w.device)
      → (g : Flight) → Flies w.parts who g → InFlight b' who g.op left × (left_of g ≡ left + 1) × (1 ≤ left)
  raise_flies b' word left change tells d v g flies =
      subst (λ (h : Flight). InFlight b' who h.op left × (left_of h ≡ left + 1) × (1 ≤ left)) (same_flight w.parts who to.flight g to.flies flies)
      (let on = flies_now b' word change in
      let told = tells (one_more to.flight) on in (
        record { flight = one_more to.flight; flies = on; op_is = refl; left_is = told ∙ sym (left_now d w.parts (state w.device) v who to) },
        left_falls d w.parts (state w.device) v who to ∙ ap (λ (n : ℕ). n + 1) (sym told),
        omega (arith, told),
      ))

  module _ (w' : Volume D F) (only : StoresOnly (λ a. a ≡ slot_word w.parts.fact.geometry slot 4) (state w.device) (state w'.device))
      (agree : Agree (state w'.device).now (state w'.device).past) (leaves : LeavesTables raised w.parts.fact slot (state w.device) (state w'.device))
      (faults : (state w.device).faults ≤ (state w'.device).faults) where
    -- it failed: more than one event was left
    module _ (stops : Stops w.parts w'.parts) (print : Print) (d : Disk) (v : IsVolume d w.parts (state w.device)) where
      pub raise_stops : Agrees state w'
      raise_stops = is_stopped (event_stopped state print raised who w w' d slot 0 (row_at d v).row v (row_at d v).is (may d v) stops only)

      pub raise_fails : (g : Flight) → Flies w.parts who g → Rose (state w.device).faults (state w'.device).faults
          → Breaks state print who (answered_by (left_of g) g.op) w w' d
      raise_fails g flies rose =
          subst (λ (h : Flight). Breaks state print who (answered_by (left_of h) h.op) w w' d) (same_flight w.parts who to.flight g to.flies flies)
          (subst (λ (o : Option Op). Breaks state print who o w w' d)
          (sym (ap (λ (t : Bool). if t then Some to.flight.op else None) (other_test (left_of to.flight) 1 many)))
          (event_breaks state print raised who w w' d slot 0 (row_at d v).row v (row_at d v).is (may d v) stops only agree leaves faults rose))
        where
          many : left_of to.flight ≢ 1
          many is = let falls = left_falls d w.parts (state w.device) v who to in omega (arith, is, falls)

    -- it succeeded
    module _ (word : ℕ) (change : RaisesOne who slot word w.parts w'.parts) (settles : SettlesTable raised w.parts.fact slot (state w.device)
        (state w'.device))
        (own : SettlesAll who (state w.device) (state w'.device))
        (others : KeepsFlushed (Others who) (λ a. a ≡ slot_word w.parts.fact.geometry slot 4) (state w.device) (state w'.device))
        (is_word : IsWordAfter raised (state w.device).now w.parts.fact slot word) (spare : (state w.device).spare ≤ (state w'.device).spare + 3)
      where
        pub raise_moves : (print : Print) (d : Disk) → IsVolume d w.parts (state w.device) → MovesOn state print who w w' d
        raise_moves print d v =
            event_moves state print raised who w w' d slot word (row_at d v).row v agree
            (raise_event d w.parts w'.parts (state w.device) (state w'.device) v who slot word to change slot_is spare
            (record { at_slot = (row_at d v).is; only = only; leaves = leaves; settles = settles; own = own; others = others; faults = faults })
            is_word)

        pub raise_agrees : (print : Print) → Agrees state w → w.parts.stopped ≡ false → Agrees state w'
        raise_agrees print agrees running = let found = running_disk state w running agrees in let moves = raise_moves print found.0 found.1 in
            agrees_with moves.after moves.moves.volume
