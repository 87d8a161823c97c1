-- An operation that has its pages comes in flight: the volume in memory agrees with the same disk.
use Rattle.std.proofs.Common.{
  ◌≡◌,
  ◌≢◌,
  ◌⊎◌,
  inl,
  inr,
  ⊎_elim,
  ℕ,
  ◌+◌,
  ◌-◌,
  ◌≤◌,
  List,
  [],
  ◌∷◌,
  length,
  take,
  refl,
  sym,
  ◌∙◌,
  ap,
  subst,
  arith,
  Option,
  Some,
  None,
}
use Rattle.std.specs.Prelude.{Contains, slice_get}
use Rattle.std.specs.FinMap.{get}
use Rattle.pm_device.specs.State.{State, Agree}
use Rattle.page_alloc.specs.Free.{FreePages}
use Rattle.law_write.specs.Events.{IsUnused}
use Rattle.file_write.proofs.Taking.{taken-free, left-free, taken-left, taken-or_left, untaken-all}
use Rattle.dn_model.specs.Disk.{Disk}
use Rattle.dn_volume.specs.declared.flight.Flight.{Flight}
use Rattle.dn_volume.specs.declared.flight.Change.{Change}
use Rattle.dn_volume.specs.declared.flight.Change.TheVariants.{Data}
use Rattle.dn_volume.specs.declared.flight.DataChange.{DataChange}
use Rattle.dn_volume.specs.declared.volume.InodeState.{InodeState}
use Rattle.dn_volume.specs.declared.volume.Parts.{Parts}
use Rattle.dn_volume.specs.Parties.{Flies, taken_by, blocks_of}
use Rattle.dn_volume.specs.Inodes.{AreHolders, as_use}
use Rattle.dn_volume.specs.Space.{HasSpace}
use Rattle.dn_volume.specs.Cleans.{TwoLeft}
use Rattle.dn_volume.specs.Balance.{raised_by, times, AreCounted}
use Rattle.dn_volume.specs.Flights.{IsFlight}
use Rattle.dn_volume.specs.Shares.{IsWaiting, in_queue, is_begun}
use Rattle.dn_volume.specs.Replaces.{Replaces, MovesOwed}
use Rattle.dn_volume.specs.Reserve.{HasRoom, owed_to}
use Rattle.dn_volume.specs.Agrees.{IsVolume}
use Rattle.dn_volume.specs.Rely.{StayInHand}
use Rattle.dn_volume.proofs.Lefts.{left_still, two_left}
use Rattle.dn_volume.proofs.Stills.{still_same}
use Rattle.dn_volume.proofs.OthersStay.{others_stay}
use Rattle.dn_volume.proofs.MappingsMoved.{mappings_counted}
use Rattle.dn_volume.proofs.FewReleases.{begin_few}
use Rattle.dn_volume.proofs.Replaced.{others_same, flies_on, each_flight, each_room, owed_moved, owes, raised_moved}
use Rattle.dn_volume.proofs.Taken.{contains_or_not, holders_moved, taker_then, taker_new, taker_kept, space_moved}
use Rattle.begin_steps.specs.Room.{add_room}
use Rattle.begin_steps.specs.Starting.{TakesHold, Starts}
use Rattle.begin_steps.specs.Begun.{MayStart, HasPlacesFor}
use Rattle.begin_steps.proofs.RoomKept.{inode_was, inode_is, leaves_same, for_none}
use Rattle.begin_steps.proofs.Cleanings.{cleaning_takes}
use Rattle.begin_steps.proofs.Members.{left_in_order}

module _ (d : Disk) (who : ℕ) (f : Flight) (free' : FreePages) (b b' : Parts) (s : State) (v : IsVolume d b s) (agree : Agree s.now s.past)
    (may : MayStart d who f free' b s) (starts : Starts who f (record b { free = free' }) b') where
  abbrev n : Parts
  n = record b {
    free = free';
    inodes = b'.inodes;
    flights = b'.flights;
    owed = add_room b.owed (owed_to (Some f));
    made = b'.made;
  }

  replaces : Replaces (who - 1) None (Some f) b n
  replaces = record {
    place = let some = may.begins.some in let few = may.begins.few in omega (arith, some, few);
    clients = starts.clients;
    was = may.begins.idle;
    now = starts.flight;
    others = starts.others;
    sharing = refl;
    cleaning = refl;
  }

  client : 1 ≤ who
  client = may.begins.some

  taker : ℕ → ℕ
  taker = v.space.taker

  fresh_free : (page : ℕ) → Contains (taken_by f) page → Contains b.free.free page
  fresh_free page has = taken-free b.free free' f.fresh.items f.spare.items (blocks_of f.change) v.space.in_order may.takes page has

  fresh_loose : (page : ℕ) → Contains (taken_by f) page → v.space.taker page ≡ 0
  fresh_loose page has = ((v.space.free page).0 (fresh_free page has)).1

  no_element : (x : ℕ) → Contains [] x → ⊥
  no_element x none = omega (arith, none.1)

  -- the operation has taken its pages; another page has the taker that it had
  abbrev taker' : ℕ → ℕ
  taker' page = taker_then who client None (Some f) b n replaces d v.space page

  taker_other : (page : ℕ) → (Contains (taken_by f) page → ⊥) → taker' page ≡ v.space.taker page
  taker_other page out = taker_kept who client None (Some f) b n replaces d v.space page out (no_element page)

  -- two pages are left where it takes some, and those that there were where it takes none
  left_by : (pages : List ℕ) → taken_by f ≡ pages → (1 ≤ length free'.free) × TwoLeft n
  left_by [] is =
      let same : free' ≡ b.free = untaken-all b.free free' (taken_by f) may.takes is in
      (subst (λ (x : FreePages). 1 ≤ length x.free) (sym same) v.space.some, left_still b n same (cleaning_takes who client None (Some f) b n replaces) v.space.left)
  left_by (page ∷ pages) is =
      let long = ap (λ (xs : List ℕ). length xs) is in
      let two = may.left (omega (arith, long)) in
      (omega (arith, two), two_left n (left_in_order b.free free' (taken_by f) may.takes v.space.in_order) two)

  left_now : (1 ≤ length free'.free) × TwoLeft n
  left_now = left_by (taken_by f) refl

  space : HasSpace d n
  space = space_moved who client None (Some f) b n replaces d v.space (λ page has. inr (fresh_loose page has)) d (may.takes.same ∙ v.space.pages)
      (left_in_order b.free free' (taken_by f) may.takes v.space.in_order) left_now.0 left_now.1
      (λ page. ((λ has. still_free page has), (λ is. free_now page is.0 is.1 (contains_or_not page (taken_by f)))))
      (λ page has. ((v.space.free page).0 (fresh_free page has)).0)
      (λ page out unused. unused)
    where
      still_free : (page : ℕ) → Contains free'.free page → IsUnused d page × (taker' page ≡ 0)
      still_free page has =
          let was = (v.space.free page).0 (left-free b.free free' f.fresh.items f.spare.items (blocks_of f.change) v.space.in_order may.takes page
          has) in (
            was.0,
            taker_other page (λ took. taken-left b.free free' f.fresh.items f.spare.items
                (blocks_of f.change) v.space.in_order may.takes page took has) ∙ was.1,
          )

      free_now : (page : ℕ) → IsUnused d page → taker' page ≡ 0 → Contains (taken_by f) page ⊎ (Contains (taken_by f) page → ⊥)
          → Contains free'.free page
      free_now page unused none (inl has) =
          let mine = taker_new who client None (Some f) b n replaces d v.space page has in absurd (omega (arith, client, mine, none))
      free_now page unused none (inr out) =
          ⊎_elim (λ took. absurd (out took)) (λ has. has)
          (taken-or_left b.free free' f.fresh.items f.spare.items (blocks_of f.change) v.space.in_order may.takes page ((v.space.free page).1
          (unused, sym (taker_other page out) ∙ none)))

  -- Holders.
  node_was : (ino : ℕ) (x : InodeState) → slice_get b'.inodes.items ino ≡ Some x
      → (y : InodeState) × (slice_get b.inodes.items ino ≡ Some y) × TakesHold who f.held.items ino y x
  node_was ino x at = inode_was (TakesHold who f.held.items) b.inodes.items b'.inodes.items starts.inodes ino x at

  holders : AreHolders d n
  holders = holders_moved who client None (Some f) b n replaces d d refl v.holders
      (λ ino x at. let was = node_was ino x at in (
        was.0,
        was.1,
        record {
          loose = λ has. inr (may.loose ino was.0 has was.1);
          mine = was.2.mine;
          freed = λ had out. absurd (no_element ino had);
          kept = λ none out. was.2.kept out;
        },
      ))
      (λ ino has. let small = may.inside ino has in let all = v.inodes.all in omega (arith, small, all))

  -- Counts: it has raised none.
  none_raised : (slot : ℕ) → times slot (raised_by (Some f)) ≡ 0
  none_raised slot = ap (λ (k : ℕ). times slot (take k f.rows.items)) may.unraised ∙ none_of f.rows.items
    where
      none_of : (xs : List ℕ) → times slot (take 0 xs) ≡ 0
      none_of [] = refl
      none_of (x ∷ xs) = refl

  counts : AreCounted d n
  counts = mappings_counted d d b n (λ slot. 0) (λ slot. 0) (record {
    rows_same = refl;
    mappings_move = λ row has. refl;
    raised_move = λ slot. let moved = raised_moved who client None (Some f) b n replaces refl slot in let none = none_raised slot in
        omega (arith, moved, none);
    added_move = λ slot. omega arith;
    dropped_move = λ slot. omega arith;
    zero_same = refl;
    few = let more = owed_moved who client None (Some f) b n replaces (λ r. r.releases) in
        let few = begin_few d b s v (who - 1) (length f.rows.items) replaces.place may.begins.idle may.few in
        omega (arith, more, few);
  }) v.counts

  -- What is in flight.
  stay : ((q : ℕ) (g : Flight) → q ≢ who → Flies n q g → IsFlight d q g s) × StayInHand who d n s
  stay = others_stay who [] [] d d b n s s v v.fast (for_none d b.geometry s s agree (record { now = refl; past = refl; faults = refl }) b who)
      (leaves_same d b.geometry s s agree (record { now = refl; past = refl; faults = refl }) who)
      (others_same who client None (Some f) b n replaces) (λ other. refl)

  is_it : (g : Flight) → Some f ≡ Some g → f ≡ g
  is_it g is = cc

  each : (q : ℕ) (g : Flight) → Flies n q g → IsFlight d q g s
  each = each_flight who client None (Some f) b n replaces d s (λ g is. subst (λ (h : Flight). IsFlight d who h s) (is_it g is) may.plans) stay.0

  -- Room.
  places_on : (q : ℕ) (g : Flight) (c : DataChange) (x : InodeState) → Flies n q g → g.change ≡ Data c
      → slice_get b'.inodes.items g.ino ≡ Some x → length c.blocks.items ≤ x.map.room
  places_on = each_room who client None (Some f) b n replaces
      (λ g c x is data_is at. let was = node_was g.ino x at in
      let few = own g c (is_it g is) data_is was.0 was.1 in let same = ap (λ (m : InodeState). m.map.room) was.2.node in omega (arith, few, same))
      (λ q g x other was at. let from = node_was g.ino x at in
      (from.0, from.1, let same = ap (λ (m : InodeState). m.map.room) from.2.node in omega (arith, same)))
      v.room.places
    where
      own : (h : Flight) (c : DataChange) → f ≡ h → h.change ≡ Data c → (y : InodeState) → slice_get b.inodes.items h.ino ≡ Some y
          → length c.blocks.items ≤ y.map.room
      own h c same is y there =
          let mine : HasPlacesFor f (Data c) b = subst (λ (x : Change). HasPlacesFor f x b) (ap (λ (k : Flight). k.change) same ∙ is) may.places in
          mine y (subst (λ (k : Flight). slice_get b.inodes.items k.ino ≡ Some y) (sym same) there)

  moves_owed : MovesOwed None (Some f) b n
  moves_owed = record { units = omega arith; trace = omega arith; history = omega arith; queue = omega arith; releases = omega arith }

  room : HasRoom n s
  room = record {
    owes = owes who client None (Some f) b n replaces moves_owed refl refl v.room.owes;
    units = may.units;
    trace = may.room.has.trace;
    history = may.room.has.history;
    queue = may.room.has.queue;
    releases = may.room.has.releases;
    names = may.room.has.names;
    places = λ q g c x flies is at. places_on q g c x flies is at;
  }

  waits_still : (ino slot : ℕ) → IsWaiting b ino slot → IsWaiting n ino slot
  waits_still ino slot (in_queue work y has at_ino at_slot at round) =
      let now = inode_is (TakesHold who f.held.items) b.inodes.items b'.inodes.items starts.inodes ino y at in
      in_queue work now.0 has at_ino at_slot now.1 (round ∙ sym (ap (λ (m : InodeState). m.round) now.2.node))
  waits_still ino slot (is_begun item is at_ino at_slot) = is_begun item is at_ino at_slot

  started_here : IsVolume d n s
  started_here = record {
    fast = v.fast;
    running = v.running;
    names = v.names;
    inodes = record {
      all = starts.inodes.all ∙ v.inodes.all;
      each = λ ino x at. let from = node_was ino x at in let was = v.inodes.each ino from.0 from.1 in record {
        use_is = was.use_is ∙ ap (λ (m : InodeState). as_use m.used) (sym from.2.node);
        size_is = λ used. was.size_is used ∙ ap (λ (m : InodeState). m.size) (sym from.2.node);
        small = let few = was.small in let same = ap (λ (m : InodeState). m.size) from.2.node in omega (arith, few, same);
        log_pages = λ used. was.log_pages used ∙ ap (λ (m : InodeState). m.log_pages) (sym from.2.node);
        places = λ idx. ap (λ (m : InodeState). get m.map.map idx) from.2.node ∙ was.places idx;
      };
    };
    holders = holders;
    space = space;
    table = v.table;
    counts = counts;
    flights = record { clients = starts.clients ∙ v.flights.clients; each = each };
    queue = record { waits = λ ino idx m place undone. waits_still ino m.slot (v.queue.waits ino idx m place undone) };
    sharing = stay.1.sharing (λ same. let few = may.begins.few in omega (arith, few, same));
    reclaiming = record {
      waiting = v.reclaiming.waiting;
      zero_check = v.reclaiming.zero_check;
      raised = stay.1.raised (λ same. let few = may.begins.few in omega (arith, few, same));
    };
    cleaning = stay.1.cleaning (λ same. let few = may.begins.few in omega (arith, few, same));
    pointers = v.pointers;
    room = room;
    trace = v.trace;
    still = still_same b n s s (record { now = refl; past = refl; faults = refl })
        (flies_on who client None (Some f) b n replaces refl) v.still;
  }

  pub started : IsVolume d b' s
  started = subst (λ (x : Parts). IsVolume d x s) (sym starts.parts) started_here
