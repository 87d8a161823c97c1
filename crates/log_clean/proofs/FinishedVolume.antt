-- A cleaned log has replaced the old one: the volume of after.
use Rattle.std.proofs.Common.{◌≡◌, ◌≢◌, inl, ⊎_elim, ℕ, ◌+◌, ◌<◌, ◌≤◌, [], ◌∷◌, length, refl, sym, ◌∙◌, ap, subst, arith}
use Rattle.std.specs.Prelude.{Option, Some, None, All, Contains, vec_len, vec_capacity}
use Rattle.std.specs.VecDeque.{deque_len, deque_capacity}
use Rattle.pm_device.specs.State.{State}
use Rattle.pm_device.specs.Settled.{LeavesOnly, StoresOnly, KeepsFlushed, Others, SettlesAll}
use Rattle.pm_device.specs.Reading.{Stands}
use Rattle.pm_layout.specs.declared.Geometry.{Geometry}
use Rattle.pm_layout.specs.Geometry.{slots}
use Rattle.page_alloc.specs.Free.{FreePages}
use Rattle.log_entry.specs.declared.item.Flag.TheVariants.{Complete}
use Rattle.dn_model.specs.declared.op.CountChange.{CountChange}
use Rattle.dn_model.specs.Log.{tail_at}
use Rattle.dn_model.specs.Maps.{Mapping, mapping}
use Rattle.dn_model.specs.Disk.{Disk}
use Rattle.dn_model.specs.Own.{Print}
use Rattle.law_table.proofs.Rows.{listed_cases}
use Rattle.law_log_swap.proofs.Relogged.{same_geometry}
use Rattle.law_clean.specs.Cleaned.{cleaned_log}
use Rattle.log_replace.specs.Bodies.{BodyTo}
use Rattle.log_replace.specs.CleanedLaws.{cleaned_disk, MayClean}
use Rattle.log_replace.specs.Replacing.{ReplacesBetween, ReplacesLog, IsReadyToReplace, IsEndWord}
use Rattle.log_replace.proofs.CleanedDisk.{clean_replaces, cleaned_own}
use Rattle.dn_volume.specs.declared.units.TheConstants.{REPLACE_UNITS}
use Rattle.dn_volume.specs.declared.background.Cleaning.{Cleaning}
use Rattle.dn_volume.specs.declared.flight.Flight.{Flight}
use Rattle.dn_volume.specs.declared.volume.Parts.{Parts}
use Rattle.dn_volume.specs.Parties.{Flies, Holds, by_cleaning, for_cleaning}
use Rattle.dn_volume.specs.Flights.{IsFlight}
use Rattle.dn_volume.specs.Cleans.{new_log, IsCleaning}
use Rattle.dn_volume.specs.Reserve.{HasRoom}
use Rattle.dn_volume.specs.Agrees.{StandsFast, IsVolume, NamesSlots}
use Rattle.dn_volume.specs.Rely.{IsFor, LeavesRest, StayInHand}
use Rattle.dn_volume.specs.Events.{IsBetween}
use Rattle.dn_volume.proofs.Between.{old_or_new}
use Rattle.dn_volume.proofs.Stills.{still_settles}
use Rattle.dn_volume.proofs.OthersStay.{others_stay}
use Rattle.reclaim.specs.Worked.{Gives}
use Rattle.reclaim.proofs.SpaceGained.{slots_stay}
use Rattle.log_clean.specs.Finishing.{EndsCleaning}
use Rattle.log_clean.specs.Swapping.{new_head, new_tail}
use Rattle.log_clean.proofs.Begun.{no_client}
use Rattle.log_clean.proofs.FinishedDisk.{keeps, leaves, fast_then, no_stale}
use Rattle.log_clean.proofs.FinishedHands.{taken_out, none_now, kept_counted, flies_back, others_same, holds_on, holds_back, flight_apart}
use Rattle.log_clean.proofs.FinishedInodes.{inodes_then, holders_then}
use Rattle.log_clean.proofs.FinishedPages.{may_clean_it, counted, space_then}
use Rattle.log_clean.proofs.FinishedQueue.{queued_then}
use Rattle.log_clean.proofs.FinishedRest.{names_then, counts_then, reclaiming_then}
use Rattle.log_clean.proofs.FinishedRoom.{owes_ended}

-- what the stores of a new log's head and tail promise, whether a fence failed or not
pub record SwapsOn (g : Geometry) (c : Cleaning) (s t : State) : Type 0 where
  pub any_moment : ReplacesBetween g c.ino (new_head c) (new_tail c) s t
  pub only : StoresOnly (IsEndWord c.ino) s t
  pub others : KeepsFlushed (Others 16) (IsEndWord c.ino) s t
  pub spare : s.spare ≤ t.spare + REPLACE_UNITS
  pub faults : s.faults ≤ t.faults

-- and where none did
pub record SwapsWhole (g : Geometry) (c : Cleaning) (s t : State) : Type 0 where
  pub done : ReplacesLog g c.ino (new_head c) (new_tail c) s t
  pub settles : SettlesAll 16 s t

module _ (d : Disk) (b : Parts) (s : State) (c : Cleaning) (v : IsVolume d b s) (cleans : b.reclaiming.cleaning ≡ Some c)
    (written : length c.pages.items ≤ c.written) where
  abbrev e : Disk
  e = cleaned_disk d c.ino c.pages.items

  is : IsCleaning d c s
  is = v.cleaning c cleans

  abbrev may : MayClean d c.ino c.pages.items
  may = may_clean_it d b s c v cleans

  pub ready : IsReadyToReplace b.geometry c.ino (new_head c) (new_tail c) d (new_log d c) s
  ready = record {
    geometry = v.fast.geometry;
    may = clean_replaces d c.ino c.pages.items may;
    head_is = refl;
    tail_is = ap (tail_at c.pages.items) (sym (counted d b s c v cleans));
    stands = v.fast.stands;
    body = subst (λ (n : ℕ). Stands (BodyTo (new_log d c) n) s) (let few = is.written_few in omega (arith, written, few)) is.stands;
  }

  one_inode : (i : ℕ) → Contains (c.ino ∷ []) i → c.ino ≡ i
  one_inode i has = ⊎_elim (λ same. same) (λ later. absurd (omega (arith, later.1))) (listed_cases c.ino [] i has)

  for_it : IsFor d b 16 (c.ino ∷ []) c.pages.items
  for_it = record {
    inode = λ i has. inl (subst (Holds b 16) (one_inode i has) (by_cleaning c refl cleans refl));
    page = λ page has. inl (for_cleaning c refl cleans has);
  }

  module _ (t : State) (swaps : SwapsOn b.geometry c s t) where
    pub swapped_images : (print : Print) → LeavesOnly s t (IsBetween print d e)
    swapped_images print = old_or_new print d e s t (cleaned_own print d c.ino c.pages.items may) (swaps.any_moment d (new_log d c) ready)

    leaves_rest : LeavesRest 16 (c.ino ∷ []) c.pages.items d e s t
    leaves_rest = leaves d c.ino c.pages.items may s t swaps.only swaps.others

    module _ (whole : SwapsWhole b.geometry c s t) (f : FreePages) (gives : Gives (Contains (d.inode c.ino).log.pages) b.free f)
        (more : length f.free ≡ length b.free.free + length (d.inode c.ino).log.pages) (b' : Parts) (ends : EndsCleaning c (taken_out b f) b')
        (due : (idx : ℕ) (m : Mapping) → mapping (new_log d c) idx ≡ Some m → (m.flag ≡ Complete → ⊥) → Contains c.due.items m.slot) where
      fast : StandsFast e b.geometry t
      fast = fast_then d c.ino c.pages.items may s t swaps.only b.geometry v.fast (whole.done d (new_log d c) ready)

      stay : ((q : ℕ) (x : Flight) → q ≢ 16 → Flies b' q x → IsFlight e q x t) × StayInHand 16 e b' t
      stay = others_stay 16 (c.ino ∷ []) c.pages.items d e b b' s t v fast for_it leaves_rest (others_same b b' c f cleans ends)
          (λ other. absurd (other refl))

      trace_then : NamesSlots b'
      trace_then = subst (λ (g : Geometry). All (λ (x : CountChange). x.slot < slots g) b'.trace.items) (sym ends.geometry)
          (subst (λ (xs : _). All (λ (x : CountChange). x.slot < slots b.geometry) xs.items) (sym ends.trace) v.trace)

      room_then : HasRoom b' t
      room_then = record {
        owes = owes_ended c b b' (record {
          cleans = cleans;
          ended = none_now b b' c f cleans ends;
          flights = ends.flights;
          sharing = ends.sharing;
          raised = (kept_counted b b' c f cleans ends).raised;
          zero_check = (kept_counted b b' c f cleans ends).zero_check;
          units = ends.units;
          trace = ends.owed_trace;
          history = ends.owed_history;
          queue = ends.owed_queue;
          releases = ends.owed_releases;
          written = written;
        }) v.room.owes;
        units = omega (arith, v.room.units, ends.units, swaps.spare);
        trace = let len = ap (λ (x : _). vec_len x) ends.trace in let capacity = ap (λ (x : _). vec_capacity x) ends.trace in
            omega (arith, v.room.trace, len, capacity, ends.owed_trace);
        history = let len = ap (λ (x : _). vec_len x) ends.history in let capacity = ap (λ (x : _). vec_capacity x) ends.history in
            omega (arith, v.room.history, len, capacity, ends.owed_history);
        queue = omega (arith, v.room.queue, ends.queue.room, ends.owed_queue);
        releases =
            let same = (kept_counted b b' c f cleans ends).releases in
            let len = ap (λ (x : _). deque_len x) same in
            let capacity = ap (λ (x : _). deque_capacity x) same in
            omega (arith, v.room.releases, len, capacity, ends.owed_releases);
        names = let room = ap (λ (x : _). x.room) ends.names in omega (arith, v.room.names, room, ends.owed_history);
        places = λ who x change n flies of at. v.room.places who x change n (flies_back b b' c f cleans ends who x flies) of
            (sym (ends.inodes.others x.ino (flight_apart b b' c f cleans ends d s v who x (flies_back b b' c f cleans ends who x flies))) ∙ at);
      }

      pub swapped_volume : IsVolume e b' t
      swapped_volume = record {
        fast = subst (λ (g : Geometry). StandsFast e g t) (sym ends.geometry) fast;
        running = ends.stopped ∙ v.running;
        names = names_then d c.ino c.pages.items may b b' ends.names v.names;
        inodes = inodes_then d s c may is b.inodes.items b'.inodes.items ends.inodes v.inodes;
        holders = holders_then d e b b' c (same_geometry d c.ino (cleaned_log c.ino (d.inode c.ino).log c.pages.items)) ends.inodes
            (holds_back b b' c f cleans ends d s v) (holds_on b b' c f cleans ends) is.in_table v.inodes.all v.holders;
        space = space_then d b s c v cleans f gives more b' ends;
        table = slots_stay d e b.fact b'.fact (same_geometry d c.ino (cleaned_log c.ino (d.inode c.ino).log c.pages.items))
            (keeps d c.ino c.pages.items may).rows_same ends.fact v.table;
        counts = counts_then d c.ino c.pages.items may b b' (kept_counted b b' c f cleans ends) v.counts;
        flights = record {
          clients = ap (λ (fs : _). length fs.items) ends.flights ∙ v.flights.clients;
          each = λ q x flies. stay.0 q x
              (λ him. no_client b q x v.flights.clients (omega (arith, him)) (flies_back b b' c f cleans ends q x flies)) flies;
        };
        queue = queued_then d b b' c f ends may due v.queue;
        sharing = stay.1.sharing (omega arith);
        reclaiming = reclaiming_then d c.ino c.pages.items may b b' (kept_counted b b' c f cleans ends) v.reclaiming;
        cleaning = λ x at. absurd (no_cleaning b'.reclaiming.cleaning x (none_now b b' c f cleans ends) at);
        pointers = no_stale d c.ino c.pages.items may v.pointers;
        room = room_then;
        trace = trace_then;
        still = still_settles 16 b b' s t whole.settles (others_same b b' c f cleans ends) v.still;
      }
        where
          no_cleaning : (o : Option Cleaning) (x : Cleaning) → o ≡ None → o ≡ Some x → ⊥
          no_cleaning o x none some = cc
