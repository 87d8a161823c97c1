-- One page more of a cleaning's new log is written: nothing that the disk reads is stored to.
use Rattle.std.proofs.Common.{◌≡◌, ◌≢◌, inl, ℕ, ◌+◌, ◌-◌, ◌*◌, ◌<◌, ◌≤◌, List, [], ◌∷◌, length, refl, sym, ◌∙◌, ap, subst, arith}
use Rattle.std.specs.Prelude.{Some, None, Contains, slice_index}
use Rattle.std.proofs.lemmas.List.{append-nil}
use Rattle.std.proofs.lemmas.List.Elements.{Contains-get_or}
use Rattle.pm_device.specs.State.{State, Agree, Rose}
use Rattle.pm_device.specs.Settled.{LeavesOnly, StoresOnly, KeepsFlushed, Others, SettlesAll}
use Rattle.pm_device.specs.Pages.{IsInPage}
use Rattle.pm_device.proofs.Only.{stores_only-weaken}
use Rattle.pm_device.proofs.Moments.{leaves_only-weaken}
use Rattle.pm_layout.specs.declared.Geometry.{Geometry}
use Rattle.pm_layout.specs.Geometry.{IsAccepted}
use Rattle.dn_model.specs.Log.{count}
use Rattle.dn_model.specs.Disk.{Disk}
use Rattle.dn_model.specs.Image.{StandsFor}
use Rattle.dn_model.specs.Own.{Print}
use Rattle.law_write.specs.Events.{IsUnused}
use Rattle.law_names.specs.NameLaws.{StandsStill}
use Rattle.law_log_swap.specs.Replaced.{MayReplace}
use Rattle.law_clean.proofs.Cleaning.{may_replace}
use Rattle.log_replace.specs.Bodies.{IsLogOf, AddsPage, DisksStandStill}
use Rattle.dn_volume.specs.declared.units.TheConstants.{LOG_PAGE_UNITS, REPLACE_UNITS}
use Rattle.dn_volume.specs.declared.background.Cleaning.{Cleaning}
use Rattle.dn_volume.specs.declared.flight.Flight.{Flight}
use Rattle.dn_volume.specs.declared.volume.Parts.{Parts}
use Rattle.dn_volume.specs.declared.volume.Volume.{Volume}
use Rattle.dn_volume.specs.Parties.{Flies, Holds, by_client, by_daemon, by_cleaning, Takes, for_client, for_cleaning, SameOthers}
use Rattle.dn_volume.specs.Cleans.{new_log, IsCleaning}
use Rattle.dn_volume.specs.Space.{HasSpace}
use Rattle.dn_volume.specs.Shares.{IsWaiting, in_queue, is_begun}
use Rattle.dn_volume.specs.Flights.{IsFlight}
use Rattle.dn_volume.specs.Reserve.{HasRoom, units_to_clean, queue_to_clean}
use Rattle.dn_volume.specs.Agrees.{StandsFast, IsVolume, HasHead}
use Rattle.dn_volume.specs.Rely.{KeepsRest, LeavesRest, IsWordOf, of_page, IsFor, StayInHand}
use Rattle.dn_volume.specs.Events.{IsBetween, Counts, MovesOn, Breaks}
use Rattle.dn_volume.specs.Works.{CleanLowers, clean_work, taken_to_clean}
use Rattle.dn_volume.proofs.Kept.{ops_same, quiet_alone, quiet_accounts}
use Rattle.dn_volume.proofs.Heads.{head_after}
use Rattle.dn_volume.proofs.Lefts.{left_still}
use Rattle.dn_volume.proofs.Stills.{still_settles}
use Rattle.dn_volume.proofs.OthersStay.{others_stay}
use Rattle.count_events.specs.Released.{Stops}
use Rattle.log_clean.specs.Writing.{one_written, page_written}
use Rattle.log_clean.proofs.Begun.{one_cleaning, no_client, cleaning_pages, names_stopped, stops_others}

-- what the stores of a page promise, whether its fence failed or not
pub record StoresNext (pages : List ℕ) (slots : List (List ℕ)) (k : ℕ) (s t : State) : Type 0 where
  pub still : DisksStandStill pages slots s t
  pub only : StoresOnly (IsInPage (slice_index pages k)) s t
  pub others : KeepsFlushed (Others 16) (IsInPage (slice_index pages k)) s t
  pub spare : s.spare ≤ t.spare + LOG_PAGE_UNITS
  pub faults : s.faults ≤ t.faults

abbrev pub StoresPageOf : Cleaning → State → State → Type 0
StoresPageOf c s t = StoresNext c.pages.items c.slots.items c.written s t

-- by the slices of the pages and of the slots
module _ (c : Cleaning) (pages : List ℕ) (slots : List (List ℕ)) (same : pages ≡ c.pages.items) (spelt : slots ≡ c.slots.items) (s t : State) where
  pub stores_of : StoresNext pages slots c.written s t → StoresPageOf c s t
  stores_of stores = subst (λ (xs : List (List ℕ)). StoresNext c.pages.items xs c.written s t) spelt
      (subst (λ (xs : List ℕ). StoresNext xs slots c.written s t) same stores)

  pub adds_of : AddsPage pages slots c.written s t → AddsPage c.pages.items c.slots.items c.written s t
  adds_of adds = subst (λ (xs : List (List ℕ)). AddsPage c.pages.items xs c.written s t) spelt
      (subst (λ (xs : List ℕ). AddsPage xs slots c.written s t) same adds)

module _ (d : Disk) (b : Parts) (s : State) (c : Cleaning) (v : IsVolume d b s) (cleans : b.reclaiming.cleaning ≡ Some c)
    (some : c.written < length c.pages.items) where
  abbrev page : ℕ
  page = slice_index c.pages.items c.written

  is : IsCleaning d c s
  is = v.cleaning c cleans

  listed : Contains c.pages.items page
  listed = Contains-get_or c.pages.items c.written 0 some

  taken : (p : ℕ) → Contains c.pages.items p → Takes b 16 p
  taken p has = for_cleaning c refl cleans has

  unused : (p : ℕ) → Contains c.pages.items p → IsUnused d p
  unused p has = v.space.unused p (λ none. let his = v.space.takes 16 p (taken p has) in omega (arith, his, none))

  may : MayReplace d c.ino (new_log d c)
  may = may_replace d c.ino c.pages.items v.fast.valid is.in_table is.live is.worth is.paged unused

  is_log : IsLogOf c.pages.items c.slots.items (new_log d c)
  is_log = record { pages_are = refl; slots_are = is.slots }

  -- what the call asks for
  counted : count (new_log d c) ≡ length c.slots.items
  unfolding count
  counted = ap (λ (xs : List (List ℕ)). length xs) is.slots

  pub page_some : 63 * c.written < length c.slots.items
  page_some = let fits = is.paged.fits in let n = counted in omega (arith, fits, n, some)

  pub page_small : page < 65536
  page_small = let high = (is.paged.in_data c.written some).high in let few = v.fast.valid.accepted.few_pages in omega (arith, high, few)

  pub page_inside : 512 * page + 512 ≤ length s.now
  page_inside = let high = (is.paged.in_data c.written some).high in let long = v.fast.long in omega (arith, high, long)

  owed_clean : units_to_clean b.reclaiming.cleaning ≡ LOG_PAGE_UNITS * (length c.pages.items - c.written) + REPLACE_UNITS
  owed_clean = ap units_to_clean cleans

  pub page_owed : LOG_PAGE_UNITS ≤ b.owed.units
  page_owed = let owes = v.room.owes.units in let here = owed_clean in omega (arith, owes, here, some)

  pub page_room : LOG_PAGE_UNITS ≤ s.spare
  page_room = let owed = page_owed in let there = v.room.units in omega (arith, owed, there)

  module _ (t : State) (agree : Agree t.now t.past) (stores : StoresPageOf c s t) where
    stands_still : StandsStill d s t
    stands_still = stores.still d c.ino (new_log d c) is_log may v.fast.long v.fast.stands

    fast : StandsFast d b.geometry t
    fast = record { geometry = v.fast.geometry; long = stores.only.words ∙ v.fast.long; valid = v.fast.valid; stands = stands_still.stands }

    rest : KeepsRest [] (page ∷ []) d d
    rest = record {
      geometry = refl;
      inode = λ i out. refl;
      named_so = λ i other named out. ((λ is. is), (λ is. is));
      word = λ p k read. refl;
      unused = λ p out is. is;
      slots = λ i idx m table out is. refl;
      counting = λ row has counts. record { still = row; there = has; slot = refl; page = refl; print = refl };
    }

    of_it : (a : ℕ) → IsInPage page a → IsWordOf [] (page ∷ []) d a
    of_it a here = of_page page (0, omega arith, refl) here

    only : StoresOnly (IsWordOf [] (page ∷ []) d) s t
    only = stores_only-weaken (IsInPage page) (IsWordOf [] (page ∷ []) d) s t of_it stores.only

    leaves : LeavesRest 16 [] (page ∷ []) d d s t
    leaves = record {
      rest = rest;
      only = only;
      others = λ q a other out lt flushed. stores.others.flushed q a other (λ here. out (of_it a here)) lt flushed;
    }

    one_page : (p : ℕ) → Contains (page ∷ []) p → page ≡ p
    one_page p has = cleaning_pages page p has

    for_it : IsFor d b 16 [] (page ∷ [])
    for_it = record {
      inode = λ i has. absurd (omega (arith, has.1));
      page = λ p has. inl (subst (Takes b 16) (one_page p has) (taken page listed));
    }

    pub page_images : (print : Print) → LeavesOnly s t (IsBetween print d d)
    page_images print = leaves_only-weaken s t (λ x. StandsFor x d) (IsBetween print d d)
        (λ x stands. record { disk = d; stands_for = stands; own = λ own. own; same = inl (λ name. refl) }) stands_still.images

    pub page_head : HasHead b.geometry t.now
    page_head = head_after d [] (page ∷ []) b.geometry s t v.fast
        (λ p has. subst (IsUnused d) (one_page p has) (unused page listed)) only

    module _ (made : ℕ) (counts : Counts b (page_written b c made)) (adds : AddsPage c.pages.items c.slots.items c.written s t)
        (settles : SettlesAll 16 s t) where
      abbrev b' : Parts
      b' = page_written b c made

      same_cleaning : (x : Cleaning) → b.reclaiming.cleaning ≡ Some x → c ≡ x
      same_cleaning x at = one_cleaning b.reclaiming.cleaning c x cleans at

      is_now : (x : Cleaning) → b'.reclaiming.cleaning ≡ Some x → one_written c ≡ x
      is_now x at = one_cleaning b'.reclaiming.cleaning (one_written c) x refl at

      flies_on : (q : ℕ) (f : Flight) → Flies b q f → Flies b' q f
      flies_on q f flies = record { client = flies.client; is = flies.is }

      flies_back : (q : ℕ) (f : Flight) → Flies b' q f → Flies b q f
      flies_back q f flies = record { client = flies.client; is = flies.is }

      holds_on : (who ino : ℕ) → Holds b who ino → Holds b' who ino
      holds_on who ino (by_client f flies has) = by_client f (flies_on who f flies) has
      holds_on who ino (by_daemon item him at same) = by_daemon item him at same
      holds_on who ino (by_cleaning x him at same) = by_cleaning (one_written c) him refl (ap (λ (y : Cleaning). y.ino) (same_cleaning x at) ∙ same)

      holds_back : (who ino : ℕ) → Holds b' who ino → Holds b who ino
      holds_back who ino (by_client f flies has) = by_client f (flies_back who f flies) has
      holds_back who ino (by_daemon item him at same) = by_daemon item him at same
      holds_back who ino (by_cleaning x him at same) = by_cleaning c him cleans (ap (λ (y : Cleaning). y.ino) (is_now x at) ∙ same)

      takes_on : (who p : ℕ) → Takes b who p → Takes b' who p
      takes_on who p (for_client f flies has) = for_client f (flies_on who f flies) has
      takes_on who p (for_cleaning x him at has) = for_cleaning (one_written c) him refl
          (subst (λ (y : Cleaning). Contains y.pages.items p) (sym (same_cleaning x at)) has)

      takes_back : (who p : ℕ) → Takes b' who p → Takes b who p
      takes_back who p (for_client f flies has) = for_client f (flies_back who f flies) has
      takes_back who p (for_cleaning x him at has) = for_cleaning c him cleans
          (subst (λ (y : Cleaning). Contains y.pages.items p) (sym (is_now x at)) has)

      same : SameOthers 16 b b'
      same = record { flights = λ q client other. refl; sharing = λ other. refl; cleaning = λ other. absurd (other refl) }

      stay : ((q : ℕ) (f : Flight) → q ≢ 16 → Flies b' q f → IsFlight d q f t) × StayInHand 16 d b' t
      stay = others_stay 16 [] (page ∷ []) d d b b' s t v fast for_it leaves same (λ other. absurd (other refl))

      space : HasSpace d b'
      space = record {
        pages = v.space.pages;
        in_order = v.space.in_order;
        taker = v.space.taker;
        free = v.space.free;
        takes = λ who p takes. v.space.takes who p (takes_back who p takes);
        taken = λ p some. takes_on (v.space.taker p) p (v.space.taken p some);
        unused = v.space.unused;
        some = v.space.some;
        left = left_still b b' refl (takes_on 16) v.space.left;
      }

      waits : (ino slot : ℕ) → IsWaiting b ino slot → IsWaiting b' ino slot
      waits ino slot (in_queue work n has of_ino of_slot at round) = in_queue work n has of_ino of_slot at round
      waits ino slot (is_begun item at of_ino of_slot) = is_begun item at of_ino of_slot

      cleaning : IsCleaning d (one_written c) t
      cleaning = record {
        in_table = is.in_table;
        live = is.live;
        worth = is.worth;
        paged = is.paged;
        slots = is.slots;
        written_few = omega (arith, some);
        stands = adds d.geometry (new_log d c) is_log is.paged is.stands;
        places = is.places;
        due = is.due;
      }

      queue_clean : queue_to_clean b.reclaiming.cleaning ≡ length c.due.items
      queue_clean = ap queue_to_clean cleans

      room : HasRoom b' t
      room = record {
        owes = record {
          units = let was = v.room.owes.units in let here = owed_clean in omega (arith, was, here, some);
          trace = v.room.owes.trace;
          history = v.room.owes.history;
          queue = let was = v.room.owes.queue in let here = queue_clean in omega (arith, was, here);
          releases = v.room.owes.releases;
        };
        units = let there = v.room.units in let spare = stores.spare in let owed = page_owed in omega (arith, there, spare, owed);
        trace = v.room.trace;
        history = v.room.history;
        queue = v.room.queue;
        releases = v.room.releases;
        names = v.room.names;
        places = λ who f x n flies change at. v.room.places who f x n (flies_back who f flies) change at;
      }

      pub page_volume : IsVolume d b' t
      page_volume = record {
        fast = fast;
        running = v.running;
        names = v.names;
        inodes = v.inodes;
        holders = record {
          told = λ ino who n at. let told = v.holders.told ino who n at in
              ((λ holder. holds_on who ino (told.0 holder)), (λ holds. told.1 (holds_back who ino holds)));
          in_table = λ ino who holds. v.holders.in_table ino who (holds_back who ino holds);
        };
        space = space;
        table = v.table;
        counts = record { balanced = v.counts.balanced; there = v.counts.there; zero_checked = v.counts.zero_checked; few = v.counts.few };
        flights = record {
          clients = v.flights.clients;
          each = λ q f flies. stay.0 q f (λ him. no_client b q f v.flights.clients (omega (arith, him)) (flies_back q f flies)) flies;
        };
        queue = record { waits = λ ino idx m place undone. waits ino m.slot (v.queue.waits ino idx m place undone) };
        sharing = v.sharing;
        reclaiming = record { waiting = v.reclaiming.waiting; zero_check = v.reclaiming.zero_check; raised = v.reclaiming.raised };
        cleaning = λ x at. subst (λ (y : Cleaning). IsCleaning d y t) (is_now x at) cleaning;
        pointers = v.pointers;
        room = room;
        trace = v.trace;
        still = still_settles 16 b b' s t settles same v.still;
      }

-- one event less is left
pub lowered : (b : Parts) (c : Cleaning) → b.reclaiming.cleaning ≡ Some c → c.written < length c.pages.items
    → (b' : Parts) → b' ≡ page_written b c b'.made → b.reclaiming.waiting ≡ 0 → (n : ℕ) → n ≡ length c.pages.items
    → CleanLowers b b' (n - c.written)
lowered b c cleans some b' is none n all = subst (λ (x : Parts). CleanLowers b x (n - c.written)) (sym is) (record {
  left_is = omega (arith, some, all);
  less =
      let events = ap clean_work cleans in
      let pages = ap taken_to_clean cleans in
      omega (arith, events, pages, some);
  none_waits = none;
  sharing = refl;
  rests = λ rests. rests.none_waits;
  trace = refl;
})

-- the event, from what its calls give
module _ {D F : Type 0} (state : D → State) (w : Volume D F) (c : Cleaning) (cleans : w.parts.reclaiming.cleaning ≡ Some c)
    (some : c.written < length c.pages.items) (print : Print) (d : Disk) (v : IsVolume d w.parts (state w.device)) where
  module _ (w' : Volume D F) (agree : Agree (state w'.device).now (state w'.device).past)
      (stores : StoresPageOf c (state w.device) (state w'.device)) where
    pub page_moves : (made : ℕ) → w'.parts ≡ page_written w.parts c made → Counts w.parts w'.parts
        → AddsPage c.pages.items c.slots.items c.written (state w.device) (state w'.device)
        → SettlesAll 16 (state w.device) (state w'.device) → MovesOn state print 16 w w' d
    page_moves made parts counts adds settles = record {
      after = d;
      moves = record {
        volume = subst (λ (b : Parts). IsVolume d b (state w'.device)) (sym parts)
            (page_volume d w.parts (state w.device) c v cleans some (state w'.device) agree stores made
            (subst (Counts w.parts) parts counts) adds settles);
        images = page_images d w.parts (state w.device) c v cleans some (state w'.device) agree stores print;
        own = λ own. own;
        accounts = λ own. quiet_accounts print d;
        alone = λ him. quiet_alone d;
        traces = record {
          more = [];
          trace = ap (λ (b : Parts). b.trace.items) parts ∙ sym (append-nil w.parts.trace.items);
          words = λ slot. refl;
        };
        others = subst (SameOthers 16 w.parts) (sym parts) (record {
          flights = λ q client other. refl;
          sharing = λ other. refl;
          cleaning = λ other. absurd (other refl);
        });
        counts = counts;
        geometry = ap (λ (b : Parts). b.geometry) parts;
        faults = stores.faults;
      };
      quiet = λ name. refl;
      ops = ops_same w.parts w'.parts (ap (λ (b : Parts). b.flights.items) parts);
      history = ap (λ (b : Parts). b.history.items) parts;
    }

    pub page_breaks : Stops w.parts w'.parts → Rose (state w.device).faults (state w'.device).faults → Breaks state print 16 None w w' d
    page_breaks stops rose = record {
      stopped = record {
        stopped = stops.stopped;
        accepted = subst IsAccepted (v.fast.geometry ∙ sym stops.geometry) v.fast.valid.accepted;
        long = stores.only.words ∙ v.fast.long ∙ ap (λ (g : Geometry). 512 * g.pages) (v.fast.geometry ∙ sym stops.geometry);
        head = subst (λ (g : Geometry). HasHead g (state w'.device).now) (sym stops.geometry)
            (page_head d w.parts (state w.device) c v cleans some (state w'.device) agree stores);
        trace = names_stopped w.parts w'.parts stops v.trace;
      };
      after = d;
      images = page_images d w.parts (state w.device) c v cleans some (state w'.device) agree stores print;
      rose = rose;
      quiet = λ none name. refl;
      ops = ops_same w.parts w'.parts stops.flights;
      answering = λ op none. cc;
      answered = λ op none. cc;
      others = stops_others w.parts w'.parts stops;
      trace = record { more = []; trace = stops.trace ∙ sym (append-nil w.parts.trace.items) };
      history = stops.history;
      geometry = stops.geometry;
      counts = stops.made;
      faults = stores.faults;
    }
