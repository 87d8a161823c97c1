-- An event that gives one row other counts: the volume of after, from what the event's actor itself has to show.
use Rattle.std.proofs.Common.{◌≡◌, ◌≢◌, inl, inr, ℕ, ◌+◌, ◌-◌, ◌*◌, ◌<◌, ◌≤◌, Option, List, [], ◌∷◌, ◌++◌, length, sym, ◌∙◌, ap, subst, arith}
use Rattle.std.specs.Prelude.{Some, None, All}
use Rattle.std.proofs.lemmas.Bool.{cases_eq}
use Rattle.std.proofs.lemmas.List.{append-nil}
use Rattle.std.proofs.lemmas.List.Elements.{All-push}
use Rattle.dn_volume.proofs.Heads.{head_of, head_kept}
use Rattle.std.specs.FinMap.{FinMap}
use Rattle.std.specs.Ordering.{nat_cmp}
use Rattle.std.specs.Cmp.Lexicographic.{slice_cmp}
use Rattle.pm_device.specs.State.{State, Agree, Rose}
use Rattle.pm_device.specs.Settled.{StoresOnly, KeepsFlushed, Others, SettlesAll}
use Rattle.pm_layout.specs.declared.Geometry.{Geometry}
use Rattle.pm_layout.specs.Geometry.{IsAccepted, slot_word, slots}
use Rattle.fingerprint.specs.Count.{count_word}
use Rattle.fingerprint.specs.declared.count.CountWord.{CountWord}
use Rattle.dn_model.specs.Table.{Row}
use Rattle.dn_model.specs.Disk.{Disk}
use Rattle.dn_model.specs.Counts.{total}
use Rattle.dn_model.specs.Own.{Print}
use Rattle.law_table.specs.Changes.{recounted}
use Rattle.law_table_on_disk.specs.CountLaws.{MayRecount}
use Rattle.law_table_on_disk.proofs.Recounted.{recount_own}
use Rattle.fact_table.specs.Table.{Table, IsAtSlot, HasRow}
use Rattle.fact_counts.specs.Counted.{LeavesTables, SettlesTable, count_changed}
use Rattle.fact_counts.proofs.Counting.{row_kept, row_small}
use Rattle.dn_volume.specs.declared.flight.Flight.{Flight}
use Rattle.dn_volume.specs.declared.background.DyingPlace.{DyingPlace}
use Rattle.dn_model.specs.declared.op.CountChange.{CountChange}
use Rattle.dn_volume.specs.declared.volume.InodeState.{InodeState}
use Rattle.dn_volume.specs.declared.volume.Parts.{Parts}
use Rattle.dn_volume.specs.declared.volume.Volume.{Volume}
use Rattle.dn_volume.specs.Parties.{Flies, SameOthers, KeepsOps, flight_at}
use Rattle.dn_volume.specs.Inodes.{AreNamesOf, AreInodesOf}
use Rattle.dn_volume.specs.Space.{AreSlotsOf}
use Rattle.dn_volume.specs.Balance.{AreCounted}
use Rattle.dn_volume.specs.Flights.{IsFlight, AreFlights}
use Rattle.dn_volume.specs.Shares.{Shares}
use Rattle.dn_volume.specs.Reclaims.{one_if, dying_units, IsRaised}
use Rattle.dn_volume.specs.Reserve.{HasRoom}
use Rattle.dn_volume.specs.Agrees.{StandsFast, IsVolume, IsStopped, NamesSlots, HasHead}
use Rattle.dn_volume.specs.Events.{Traces, Counts, MovesOn, Breaks}
use Rattle.dn_volume.specs.Rely.{IsFor, LeavesRest, StayInHand}
use Rattle.dn_volume.proofs.OthersStay.{others_stay}
use Rattle.dn_volume.proofs.Tables.{is_table}
use Rattle.dn_volume.proofs.Stills.{still_settles}
use Rattle.dn_volume.proofs.Kept.{ops_same}
use Rattle.count_events.specs.Released.{KeepsParts, Stops}
use Rattle.dn_volume.proofs.CountsMoved.{MovesCounts, counts_move}
use Rattle.dn_volume.proofs.TraceWords.{words_follow}
use Rattle.count_events.proofs.CountDisk.{
  recount_accounts,
  recount_alone,
  fast_after,
  table_after,
  between,
  quiet,
  unused_after,
  unused_before,
  leaves_after,
  no_stale_after,
}
use Rattle.count_events.proofs.CleaningKept.{cleaning_kept}
use Rattle.dn_volume.proofs.Hands.{SameHands, names_stay, inodes_stay, holders_stay, space_stays, queue_stays, dying_same, table_stays}

-- the row at the slot gets the counts that f makes of it, by a call of the table that succeeded
pub record CountsOne (f : Row → CountWord) (who : ℕ) (d : Disk) (b : Parts) (s u : State) (slot : ℕ) (row : Row) : Type 0 where
  pub at_slot : IsAtSlot d slot row
  pub only : StoresOnly (λ a. a ≡ slot_word b.fact.geometry slot 4) s u
  pub leaves : LeavesTables f b.fact slot s u
  pub settles : SettlesTable f b.fact slot s u
  pub own : SettlesAll who s u
  pub others : KeepsFlushed (Others who) (λ a. a ≡ slot_word b.fact.geometry slot 4) s u
  pub faults : s.faults ≤ u.faults

-- And this is what becomes of what is kept in memory. The actor shows what it has in hand itself.
pub record CountEvent (f : Row → CountWord) (who : ℕ) (d : Disk) (b b' : Parts) (s u : State) (slot word : ℕ) (row : Row) : Type 0 where
  pub counted : CountsOne f who d b s u slot row
  pub moves : MovesCounts d b b' row (f row).rfc (f row).uc
  pub kept : KeepsParts b b'
  pub hands : SameHands b b'
  pub same : SameOthers who b b'
  pub ops : KeepsOps b b'
  pub running : b'.stopped ≡ b.stopped
  pub clients : length b'.flights.items ≡ length b.flights.items
  pub mine : (fl : Flight) → Flies b' who fl → IsFlight (count_changed f d slot row) who fl u
  pub shares : who ≡ 15 → Shares (count_changed f d slot row) b'
  pub dying : who ≢ 16 → b'.reclaiming.raised ≡ b.reclaiming.raised
  pub raised : who ≡ 16 → (p : DyingPlace) → b'.reclaiming.raised ≡ Some p → IsRaised (count_changed f d slot row) p
  pub waiting : b'.reclaiming.waiting + one_if b'.reclaiming.raised ≡ one_if b'.reclaiming.zero_check + 2 * length b'.reclaiming.releases.items +
      total d.geometry.inodes (dying_units d)
  pub checked : (x : ℕ) → b'.reclaiming.zero_check ≡ Some x → HasRow d x
  pub room : HasRoom b' u
  pub trace : b'.trace.items ≡ b.trace.items ++ record { slot = slot; word = word } ∷ []
  pub word_is : word ≡ count_word (f row).rfc (f row).uc
  pub made : Counts b b'

-- the trace names slots, and one more
names_more : (b b' : Parts) (change : CountChange) → b'.geometry ≡ b.geometry → b'.trace.items ≡ b.trace.items ++ change ∷ []
    → change.slot < slots b.geometry → NamesSlots b → NamesSlots b'
names_more b b' change same is lt names =
    subst (λ (g : Geometry). All (λ (c : CountChange). c.slot < slots g) b'.trace.items) (sym same)
    (subst (All (λ (c : CountChange). c.slot < slots b.geometry)) (sym is) (All-push (λ (c : CountChange). c.slot < slots b.geometry) b.trace.items
    change names lt))

module _ (f : Row → CountWord) (who : ℕ) (d : Disk) (b : Parts) (s u : State) (slot : ℕ) (row : Row) (v : IsVolume d b s)
    (may : MayRecount d row (f row).rfc (f row).uc)
    (at_slot : IsAtSlot d slot row) where
  slot_small : slot < slots b.geometry
  slot_small = subst (λ (g : Geometry). slot < slots g) (sym v.table.geometry ∙ v.fast.geometry) (row_small d s.now b.fact (is_table d b s v) slot row
      at_slot)

module _ (f : Row → CountWord) (who : ℕ) (d : Disk) (b b' : Parts) (s u : State) (slot word : ℕ) (row : Row) (v : IsVolume d b s)
    (is : CountEvent f who d b b' s u slot word row) where
  abbrev e : Disk
  e = count_changed f d slot row

  abbrev t : Table
  t = b.fact

  abbrev may : MayRecount d row (f row).rfc (f row).uc
  may = is.moves.here.may

  fast : StandsFast e b.geometry u
  fast = fast_after f who d t row slot s u b.geometry is.counted.at_slot v.fast (is_table d b s v) may is.counted.only is.counted.settles

  counts : AreCounted e b'
  counts = subst (λ (x : ℕ). AreCounted (recounted d x (f row).rfc (f row).uc) b') is.counted.at_slot.slot_is
      (counts_move d b b' row (f row).rfc (f row).uc is.moves v.counts)

  leaves_rest : LeavesRest who [] [] d e s u
  leaves_rest = leaves_after f who d t row slot s u b.geometry is.counted.at_slot v.fast (is_table d b s v) may is.counted.only is.counted.others

  for_it : IsFor d b who [] []
  for_it = record { inode = λ i has. absurd (omega (arith, has.1)); page = λ page has. absurd (omega (arith, has.1)) }

  stay : ((q : ℕ) (fl : Flight) → q ≢ who → Flies b' q fl → IsFlight e q fl u) × StayInHand who e b' u
  stay = others_stay who [] [] d e b b' s u v fast for_it leaves_rest is.same is.dying

  flights_after : AreFlights e b' u
  flights_after = record {
    clients = is.clients ∙ v.flights.clients;
    each = λ q fl flies. elim (cases_eq q who) [
      | inl me ↦ subst (λ (x : ℕ). IsFlight e x fl u) (sym me) (is.mine fl (subst (λ (x : ℕ). Flies b' x fl) me flies))
      | inr other ↦ stay.0 q fl other flies
    ];
  }

  shares_after : Shares e b'
  shares_after = elim (cases_eq who 15) [ inl me ↦ is.shares me | inr other ↦ stay.1.sharing other ]

  raised_after : (p : DyingPlace) → b'.reclaiming.raised ≡ Some p → IsRaised e p
  raised_after = elim (cases_eq who 16) [ inl me ↦ is.raised me | inr other ↦ stay.1.raised other ]

  pub volume_after : IsVolume e b' u
  volume_after = record {
    fast = subst (λ (g : Geometry). StandsFast e g u) (sym is.kept.geometry) fast;
    running = is.running ∙ v.running;
    names = subst (λ (m : FinMap (slice_cmp nat_cmp) ℕ). AreNamesOf e m) (sym is.kept.names) (names_stay d e.chain e.pointer b.names.map v.names);
    inodes = subst (λ (ns : List InodeState). AreInodesOf e ns) (sym is.kept.inodes) (inodes_stay d e.chain e.pointer b.inodes.items v.inodes);
    holders = holders_stay d e.chain e.pointer b b' is.hands is.kept.inodes v.holders;
    space = space_stays d e.chain e.pointer b b' is.hands is.kept.free
        (unused_after f who d t row slot s u b.geometry is.counted.at_slot v.fast (is_table d b s v) may is.counted.only)
        (unused_before f who d t row slot s u b.geometry is.counted.at_slot v.fast (is_table d b s v) may is.counted.only) v.space;
    table = subst (λ (x : Table). AreSlotsOf e x) (sym is.kept.fact)
        (table_stays e u.now t (table_after f who d t row slot s u b.geometry is.counted.at_slot v.fast (is_table d b s v) may is.counted.only
        is.counted.settles));
    counts = counts;
    flights = flights_after;
    queue = queue_stays d e.chain e.pointer b b' is.hands v.queue;
    sharing = shares_after;
    reclaiming = record {
      waiting = is.waiting ∙ ap (λ (n : ℕ). one_if b'.reclaiming.zero_check + 2 * length b'.reclaiming.releases.items + n)
          (sym (dying_same d e.chain e.pointer));
      zero_check = λ x at. row_kept d slot (f row).rfc (f row).uc x (is.checked x at);
      raised = raised_after;
    };
    cleaning = cleaning_kept [] [] d e b b' s u v leaves_rest.rest leaves_rest.only is.kept.cleaning
        (λ c at has. absurd (omega (arith, has.1))) (λ c at page took has. absurd (omega (arith, has.1)));
    pointers = no_stale_after f who d t row slot s u b.geometry is.counted.at_slot v.fast (is_table d b s v) may is.counted.only v.pointers;
    room = is.room;
    trace = names_more b b' (record { slot = slot; word = word }) is.kept.geometry is.trace
        (slot_small f who d b s u slot row v may is.counted.at_slot) v.trace;
    still = still_settles who b b' s u is.counted.own is.same v.still;
  }

  pub traces_after : Traces d e b b'
  traces_after = record {
    more = record { slot = slot; word = word } ∷ [];
    trace = is.trace;
    words = words_follow d slot (f row).rfc (f row).uc word row is.counted.at_slot.slot_is is.counted.at_slot.there is.word_is;
  }

-- a count word is none of the head's
slot_high : (g : Geometry) (slot a : ℕ) → a < 4 → a ≡ slot_word g slot 4 → ⊥
slot_high g slot a low is = omega (arith, low, is)

-- so the event keeps its promise
module _ {D F : Type 0} (state : D → State) (print : Print) (f : Row → CountWord) (who : ℕ) (w w' : Volume D F) (d : Disk) (slot word : ℕ) (row : Row)
    (v : IsVolume d w.parts (state w.device)) where
  pub event_moves : Agree (state w'.device).now (state w'.device).past → CountEvent f who d w.parts w'.parts (state w.device) (state w'.device) slot
      word row → MovesOn state print who w w' d
  event_moves agree is = record {
    after = count_changed f d slot row;
    moves = record {
      volume = volume_after f who d w.parts w'.parts (state w.device) (state w'.device) slot word row v is;
      images = between f who d w.parts.fact row slot (state w.device) (state w'.device) w.parts.geometry is.counted.at_slot v.fast
          (is_table d w.parts (state w.device) v) is.moves.here.may is.counted.only print agree is.counted.leaves;
      own = recount_own d slot (f row).rfc (f row).uc print;
      accounts = λ own. recount_accounts d slot (f row).rfc (f row).uc print;
      alone = λ is. recount_alone d slot (f row).rfc (f row).uc;
      traces = traces_after f who d w.parts w'.parts (state w.device) (state w'.device) slot word row v is;
      others = is.same;
      counts = is.made;
      geometry = is.kept.geometry;
      faults = is.counted.faults;
    };
    quiet = quiet f who d w.parts.fact row slot (state w.device) (state w'.device) w.parts.geometry is.counted.at_slot v.fast
        (is_table d w.parts (state w.device) v) is.moves.here.may is.counted.only;
    ops = is.ops;
    history = is.kept.history;
  }

  -- where the call of the table failed
  module _ (at_slot : IsAtSlot d slot row) (may : MayRecount d row (f row).rfc (f row).uc) (stops : Stops w.parts w'.parts)
      (only : StoresOnly (λ a. a ≡ slot_word w.parts.fact.geometry slot 4) (state w.device) (state w'.device)) where
    pub event_stopped : IsStopped w'.parts (state w'.device)
    event_stopped = record {
      stopped = stops.stopped;
      accepted = subst IsAccepted (v.fast.geometry ∙ sym stops.geometry) v.fast.valid.accepted;
      long = only.words ∙ v.fast.long ∙ ap (λ (g : Geometry). 512 * g.pages) (v.fast.geometry ∙ sym stops.geometry);
      head = head_kept (λ a. a ≡ slot_word w.parts.fact.geometry slot 4) w'.parts.geometry (state w.device) (state w'.device)
          (λ a low is. slot_high w.parts.fact.geometry slot a low is) only
          (subst (λ (g : Geometry). HasHead g (state w.device).now) (sym stops.geometry) (head_of d w.parts.geometry (state w.device) v.fast));
      trace = subst (λ (g : Geometry). All (λ (c : CountChange). c.slot < slots g) w'.parts.trace.items) (sym stops.geometry)
          (subst (All (λ (c : CountChange). c.slot < slots w.parts.geometry)) (sym stops.trace) v.trace);
    }

    pub event_breaks : Agree (state w'.device).now (state w'.device).past → LeavesTables f w.parts.fact slot (state w.device) (state w'.device)
        → (state w.device).faults ≤ (state w'.device).faults → Rose (state w.device).faults (state w'.device).faults → Breaks state print who None w
        w' d
    event_breaks agree leaves faults rose = record {
      stopped = event_stopped;
      after = count_changed f d slot row;
      images = between f who d w.parts.fact row slot (state w.device) (state w'.device) w.parts.geometry at_slot v.fast
          (is_table d w.parts (state w.device) v) may only print agree leaves;
      rose = rose;
      quiet = λ none. quiet f who d w.parts.fact row slot (state w.device) (state w'.device) w.parts.geometry at_slot v.fast
          (is_table d w.parts (state w.device) v) may only;
      ops = ops_same w.parts w'.parts stops.flights;
      others = record {
        flights = λ q some other. ap (λ (fs : List (Option Flight)). flight_at fs (q - 1)) stops.flights;
        sharing = λ other. stops.sharing;
        cleaning = λ other. stops.cleaning;
      };
      trace = record { more = []; trace = stops.trace ∙ sym (append-nil w.parts.trace.items) };
      geometry = stops.geometry;
      answering = λ op none. cc;
      answered = λ op none. cc;
      history = stops.history;
      counts = stops.made;
      faults = faults;
    }
