-- A cleaning that has its pages is begun: the volume in memory agrees with the same disk.
use Rattle.std.proofs.Common.{◌≡◌, ◌≢◌, ◌⊎◌, inl, inr, ⊎_elim, ℕ, ◌+◌, ◌-◌, ◌<◌, true, List, [], length, refl, sym, ◌∙◌, ap, subst, arith}
use Rattle.std.specs.Prelude.{Contains, slice_get, slice_index, Option, Some, None}
use Rattle.std.specs.FinMap.{get}
use Rattle.std.proofs.lemmas.Bool.{cases_eq}
use Rattle.std.proofs.lemmas.Option.{slice_get_cases, slice_get_within, slice_get_past}
use Rattle.std.proofs.lemmas.List.Elements.{Contains-get_or}
use Rattle.pm_device.specs.State.{State, Agree}
use Rattle.pm_device.specs.Reading.{Stands}
use Rattle.page_alloc.specs.Free.{FreePages}
use Rattle.log_replace.specs.Bodies.{BodyTo}
use Rattle.file_write.specs.Take.{TakesFirst}
use Rattle.law_write.specs.Events.{IsUnused}
use Rattle.dn_model.specs.Log.{IsPaged, count}
use Rattle.dn_model.specs.Disk.{Disk}
use Rattle.law_clean.specs.Cleaned.{cleaned_slots, pages_for}
use Rattle.dn_volume.specs.declared.background.Cleaning.{Cleaning}
use Rattle.dn_volume.specs.declared.flight.Flight.{Flight}
use Rattle.dn_volume.specs.declared.volume.InodeState.{InodeState}
use Rattle.dn_volume.specs.declared.volume.Parts.{Parts}
use Rattle.dn_volume.specs.Parties.{Flies, Holds, by_client, by_daemon, by_cleaning, Takes, for_client, for_cleaning, opened, flight_at}
use Rattle.dn_volume.specs.Inodes.{AreHolders, as_use}
use Rattle.dn_volume.specs.Space.{HasSpace}
use Rattle.dn_volume.specs.Balance.{AreCounted}
use Rattle.dn_volume.specs.Flights.{IsFlight}
use Rattle.dn_volume.specs.Shares.{IsWaiting, in_queue, is_begun}
use Rattle.dn_volume.specs.Reserve.{HasRoom, units_to_clean, queue_to_clean}
use Rattle.dn_volume.specs.Kept.{OfInodes}
use Rattle.dn_volume.specs.Agrees.{IsVolume}
use Rattle.dn_volume.specs.Cleans.{may_clean, new_log, IsCleaning}
use Rattle.dn_volume.specs.Rely.{StayInHand}
use Rattle.dn_volume.proofs.Stills.{still_same}
use Rattle.dn_volume.proofs.OthersStay.{others_stay}
use Rattle.dn_volume.proofs.MappingsMoved.{mappings_counted}
use Rattle.log_clean.specs.Beginning.{IsPlannedFor, HasRoomFor, IsHeldFor, Notes, units_for}
use Rattle.log_clean.proofs.Remaining.{can, in_table, live}
use Rattle.log_clean.proofs.Worthy.{worthy, pages_there}
use Rattle.log_clean.proofs.Taken.{pages_apart, page_unused, space_taken}
use Rattle.log_clean.proofs.Grown.{leaves_same, for_none}

-- an inode's state was another before, and becomes another
pub inode_was : (P : ℕ → InodeState → InodeState → Type 0) (old new : List InodeState) → OfInodes P old new → (ino : ℕ) (n' : InodeState)
    → slice_get new ino ≡ Some n' → (n : InodeState) × (slice_get old ino ≡ Some n) × P ino n n'
inode_was P old new of ino n' at = ⊎_elim (λ found. (found.0, found.2, of.each ino found.0 n' found.2 at))
    (λ past. absurd (let lt = slice_get_within new ino n' at in omega (arith, lt, past.0, of.all))) (slice_get_cases old ino).1

pub inode_is : (P : ℕ → InodeState → InodeState → Type 0) (old new : List InodeState) → OfInodes P old new → (ino : ℕ) (n : InodeState)
    → slice_get old ino ≡ Some n → (n' : InodeState) × (slice_get new ino ≡ Some n') × P ino n n'
inode_is P old new of ino n at = ⊎_elim (λ found. (found.0, found.2, of.each ino n found.0 at found.2))
    (λ past. absurd (let lt = slice_get_within old ino n at in omega (arith, lt, past.0, of.all))) (slice_get_cases new ino).1

some_one : (c x : Cleaning) → Some c ≡ Some x → c ≡ x
some_one c x e = cc

none_one : (o : Option Cleaning) (x : Cleaning) → o ≡ None → o ≡ Some x → ⊥
none_one o x none some = cc

none_holds : (h : Option ℕ) (q : ℕ) → h ≡ None → h ≡ Some q → ⊥
none_holds h q none some = cc

same_holder : (h : Option ℕ) (p q : ℕ) → h ≡ Some p → h ≡ Some q → p ≡ q
same_holder h p q one other = cc

none_flies : (o : Option Flight) (f : Flight) → o ≡ None → o ≡ Some f → ⊥
none_flies o f none some = cc

module _ (d : Disk) (c : Cleaning) (free' : FreePages) (b b' : Parts) (s : State) (v : IsVolume d b s) (agree : Agree s.now s.past)
    (none_begun : b.reclaiming.cleaning ≡ None) (node : InodeState) (at : slice_get b.inodes.items c.ino ≡ Some node)
    (may : may_clean b c.ino ≡ true) (takes : TakesFirst b.free free' c.pages.items)
    (as_many : length c.pages.items ≡ pages_for (length c.slots.items)) (none_written : c.written ≡ 0) (planned : IsPlannedFor d c)
    (room_for : HasRoomFor c b s) (notes : Notes c (record b { free = free' }) b') where
  abbrev n : Parts
  n = record b {
    free = free';
    inodes = b'.inodes;
    owed = record b.owed {
      units = b.owed.units + units_for (length c.pages.items);
      queue = b.owed.queue + length c.due.items;
    };
    made = b'.made;
    reclaiming = record b.reclaiming { cleaning = Some c };
  }

  -- Its pages.
  slots_long : cleaned_slots c.ino (d.inode c.ino).log ≡ length c.slots.items
  slots_long = ap length planned.slots

  pages_long : length c.pages.items ≡ pages_for (cleaned_slots c.ino (d.inode c.ino).log)
  pages_long = as_many ∙ ap pages_for (sym slots_long)

  fits : length c.pages.items < length b.free.free
  fits = let few = pages_there d b s v c.ino node at may in omega (arith, few, pages_long)

  -- Who is there.
  flies_on : (q : ℕ) (f : Flight) → Flies b q f → Flies n q f
  flies_on q f flies = record { client = flies.client; is = flies.is }

  flies_was : (q : ℕ) (f : Flight) → Flies n q f → Flies b q f
  flies_was q f flies = record { client = flies.client; is = flies.is }

  takes_on : (q page : ℕ) → Takes b q page → Takes n q page
  takes_on q page (for_client f flies has) = for_client f (flies_on q f flies) has
  takes_on q page (for_cleaning x him is has) = absurd (none_one b.reclaiming.cleaning x none_begun is)

  takes_was : (q page : ℕ) → Takes n q page → ((q ≡ 16) × Contains c.pages.items page) ⊎ Takes b q page
  takes_was q page (for_client f flies has) = inr (for_client f (flies_was q f flies) has)
  takes_was q page (for_cleaning x him is has) =
      inl (him, subst (λ (y : Cleaning). Contains y.pages.items page) (sym (some_one c x is)) has)

  holds_on : (q ino : ℕ) → Holds b q ino → Holds n q ino
  holds_on q ino (by_client f flies has) = by_client f (flies_on q f flies) has
  holds_on q ino (by_daemon item him is same) = by_daemon item him is same
  holds_on q ino (by_cleaning x him is same) = absurd (none_one b.reclaiming.cleaning x none_begun is)

  holds_was : (q ino : ℕ) → Holds n q ino → ((q ≡ 16) × (ino ≡ c.ino)) ⊎ Holds b q ino
  holds_was q ino (by_client f flies has) = inr (by_client f (flies_was q f flies) has)
  holds_was q ino (by_daemon item him is same) = inr (by_daemon item him is same)
  holds_was q ino (by_cleaning x him is same) = inl (him, sym same ∙ ap (λ (y : Cleaning). y.ino) (sym (some_one c x is)))

  -- The cleaning is as far as it tells.
  unused_page : (page : ℕ) → Contains c.pages.items page → IsUnused d page
  unused_page page has = page_unused d c b n v.space none_begun takes refl fits takes_on takes_was page has

  paged : IsPaged d.geometry (new_log d c)
  unfolding count
  paged = record {
    fits = pages_long;
    in_data = λ k lt. (unused_page (slice_index c.pages.items k) (Contains-get_or c.pages.items k 0 lt)).free.data_page;
    apart = pages_apart b.free free' c.pages.items takes v.space.in_order;
  }

  nothing_stands : Stands (BodyTo (new_log d c) c.written) s
  nothing_stands = record {
    within = λ a w said. absurd (let lt = said.lt in omega (arith, lt, none_written));
    reads = λ a w said. absurd (let lt = said.lt in omega (arith, lt, none_written));
    settled = λ a w said. absurd (let lt = said.lt in omega (arith, lt, none_written));
  }

  is_cleaning : IsCleaning d c s
  is_cleaning = record {
    in_table = in_table d b s v c.ino node at may;
    live = live d b s v c.ino node at may;
    worth = worthy d b s v c.ino node at may;
    paged = paged;
    slots = planned.slots;
    written_few = omega (arith, none_written);
    stands = nothing_stands;
    places = planned.places;
    due = planned.due;
  }

  -- Inodes and their holders.
  node_was : (ino : ℕ) (x : InodeState) → slice_get b'.inodes.items ino ≡ Some x
      → (y : InodeState) × (slice_get b.inodes.items ino ≡ Some y) × IsHeldFor c.ino ino y x
  node_was ino x here = inode_was (IsHeldFor c.ino) b.inodes.items b'.inodes.items notes.inodes ino x here

  nobody : (q : ℕ) → Holds b q c.ino → ⊥
  nobody q holds = none_holds node.holder q (can d b s v c.ino node at may).loose ((v.holders.told c.ino q node at).1 holds)

  told_holds : (ino q : ℕ) (y x : InodeState) → slice_get b.inodes.items ino ≡ Some y → IsHeldFor c.ino ino y x → x.holder ≡ Some q → Holds n q ino
  told_holds ino q y x here held is = ⊎_elim
      (λ same. by_cleaning c (same_holder x.holder q 16 is (held.mine same)) refl (sym same))
      (λ other. holds_on q ino ((v.holders.told ino q y here).0 (sym (held.kept other) ∙ is)))
      (cases_eq ino c.ino)

  holds_told : (ino q : ℕ) (y x : InodeState) → slice_get b.inodes.items ino ≡ Some y → IsHeldFor c.ino ino y x → Holds n q ino → x.holder ≡ Some q
  holds_told ino q y x here held holds = ⊎_elim
      (λ mine. held.mine mine.1 ∙ ap (λ (k : ℕ). Some k) (sym mine.0))
      (λ before. held.kept (λ same. nobody q (subst (λ (i : ℕ). Holds b q i) same before)) ∙ (v.holders.told ino q y here).1 before)
      (holds_was q ino holds)

  holders : AreHolders d n
  holders = record {
    told = λ ino q x here. let was = node_was ino x here in (
      (λ is. told_holds ino q was.0 x was.1 was.2 is),
      (λ holds. holds_told ino q was.0 x was.1 was.2 holds),
    );
    in_table = λ ino q holds. ⊎_elim
        (λ mine. let lt = in_table d b s v c.ino node at may in let same = mine.1 in omega (arith, lt, same))
        (λ before. v.holders.in_table ino q before) (holds_was q ino holds);
  }

  space : HasSpace d n
  space = space_taken d c b n v.space none_begun takes refl fits takes_on takes_was

  -- What else is in flight.
  no_client : (f : Flight) → Flies b 16 f → ⊥
  no_client f flies =
      let clients = v.flights.clients in
      none_flies (flight_at b.flights.items 15) f (ap opened (slice_get_past b.flights.items 15 (omega (arith, clients)))) flies.is

  stay : ((q : ℕ) (g : Flight) → q ≢ 16 → Flies n q g → IsFlight d q g s) × StayInHand 16 d n s
  stay = others_stay 16 [] [] d d b n s s v v.fast
      (for_none d b.geometry s s agree (record { now = refl; past = refl; faults = refl }) b 16)
      (leaves_same d b.geometry s s agree (record { now = refl; past = refl; faults = refl }) 16)
      (record { flights = λ q some ne. refl; sharing = λ ne. refl; cleaning = λ ne. absurd (ne refl) }) (λ ne. refl)

  each : (q : ℕ) (g : Flight) → Flies n q g → IsFlight d q g s
  each q g flies = stay.0 q g (λ same. no_client g (subst (λ (k : ℕ). Flies b k g) same (flies_was q g flies))) flies

  waits_on : (ino slot : ℕ) → IsWaiting b ino slot → IsWaiting n ino slot
  waits_on ino slot (in_queue work y has at_ino at_slot here round) =
      let now = inode_is (IsHeldFor c.ino) b.inodes.items b'.inodes.items notes.inodes ino y here in
      in_queue work now.0 has at_ino at_slot now.1 (round ∙ sym (ap (λ (m : InodeState). m.round) now.2.node))
  waits_on ino slot (is_begun item is at_ino at_slot) = is_begun item is at_ino at_slot

  counts : AreCounted d n
  counts = mappings_counted d d b n (λ slot. 0) (λ slot. 0) (record {
    rows_same = refl;
    mappings_move = λ row has. refl;
    raised_move = λ slot. omega arith;
    added_move = λ slot. omega arith;
    dropped_move = λ slot. omega arith;
    zero_same = refl;
    few = v.counts.few;
  }) v.counts

  -- Room.
  clean_units : units_to_clean (Some c) ≡ units_for (length c.pages.items)
  clean_units = ap (λ (k : ℕ). units_for (length c.pages.items - k)) none_written ∙ all_left (length c.pages.items)
    where
      all_left : (k : ℕ) → units_for (k - 0) ≡ units_for k
      all_left k = ap units_for (let all : k - 0 ≡ k = omega arith in all)

  no_units : units_to_clean b.reclaiming.cleaning ≡ 0
  no_units = ap units_to_clean none_begun

  no_due : queue_to_clean b.reclaiming.cleaning ≡ 0
  no_due = ap queue_to_clean none_begun

  room : HasRoom n s
  room =
      let was_units = v.room.owes.units in
      let was_queue = v.room.owes.queue in
      record {
        owes = record {
          units = omega (arith, was_units, clean_units, no_units);
          trace = v.room.owes.trace;
          history = v.room.owes.history;
          queue = omega (arith, was_queue, no_due);
          releases = v.room.owes.releases;
        };
        units = room_for.units;
        trace = v.room.trace;
        history = v.room.history;
        queue = room_for.queue;
        releases = v.room.releases;
        names = v.room.names;
        places = λ q g x y flies is here.
            let from = node_was g.ino y here in
            let few = v.room.places q g x from.0 (flies_was q g flies) is from.1 in
            let same = ap (λ (m : InodeState). m.map.room) from.2.node in
            omega (arith, few, same);
      }

  begun_here : IsVolume d n s
  begun_here = record {
    fast = v.fast;
    running = v.running;
    names = v.names;
    inodes = record {
      all = notes.inodes.all ∙ v.inodes.all;
      each = λ ino x here. let from = node_was ino x here in let was = v.inodes.each ino from.0 from.1 in record {
        use_is = was.use_is ∙ ap (λ (m : InodeState). as_use m.used) (sym from.2.node);
        size_is = λ used. was.size_is used ∙ ap (λ (m : InodeState). m.size) (sym from.2.node);
        small = let few = was.small in let same = ap (λ (m : InodeState). m.size) from.2.node in omega (arith, few, same);
        log_pages = λ used. was.log_pages used ∙ ap (λ (m : InodeState). m.log_pages) (sym from.2.node);
        places = λ idx. ap (λ (m : InodeState). get m.map.map idx) from.2.node ∙ was.places idx;
      };
    };
    holders = holders;
    space = space;
    table = v.table;
    counts = counts;
    flights = record { clients = v.flights.clients; each = each };
    queue = record { waits = λ ino idx m place undone. waits_on ino m.slot (v.queue.waits ino idx m place undone) };
    sharing = stay.1.sharing (λ same. omega (arith, same));
    reclaiming = record {
      waiting = v.reclaiming.waiting;
      zero_check = v.reclaiming.zero_check;
      raised = v.reclaiming.raised;
    };
    cleaning = λ x is. subst (λ (y : Cleaning). IsCleaning d y s) (some_one c x is) is_cleaning;
    pointers = v.pointers;
    room = room;
    trace = v.trace;
    still = still_same b n s s (record { now = refl; past = refl; faults = refl }) flies_on v.still;
  }

  pub begun : IsVolume d b' s
  begun = subst (λ (x : Parts). IsVolume d x s) (sym notes.parts) begun_here
