-- Room is made for a cleaning: the volume in memory agrees with the same disk.
use Rattle.std.proofs.Common.{◌≡◌, ◌≢◌, ◌⊎◌, ⊎_elim, ℕ, ◌<◌, ◌≤◌, List, [], length, refl, sym, ◌∙◌, ap, subst, arith}
use Rattle.std.specs.Prelude.{Contains, slice_index}
use Rattle.pm_device.specs.State.{State, IsSame, Agree}
use Rattle.pm_device.proofs.Only.{stores_only-same}
use Rattle.pm_device.proofs.Flushed.{settled_same, flushed_same}
use Rattle.pm_layout.specs.declared.Geometry.{Geometry}
use Rattle.law_unique.proofs.Listings.{none_listed}
use Rattle.dedupe_queue.specs.declared.Work.{Work}
use Rattle.dn_model.specs.Disk.{Disk}
use Rattle.dn_volume.specs.declared.flight.Flight.{Flight}
use Rattle.dn_volume.specs.declared.volume.InodeState.{InodeState}
use Rattle.dn_volume.specs.declared.volume.Parts.{Parts}
use Rattle.dn_volume.specs.declared.volume.Volume.{Volume}
use Rattle.dn_volume.specs.Parties.{Flies, Holds, by_client, by_daemon, by_cleaning, Takes, for_client, for_cleaning}
use Rattle.dn_volume.specs.Flights.{IsFlight}
use Rattle.dn_volume.specs.Shares.{IsWaiting, in_queue, is_begun}
use Rattle.dn_volume.specs.Reserve.{HasRoom}
use Rattle.dn_volume.specs.Balance.{AreCounted}
use Rattle.dn_volume.specs.Kept.{SameButRoom, OfInodes, IsSameInode}
use Rattle.dn_volume.specs.Agrees.{StandsFast, IsVolume}
use Rattle.dn_volume.specs.Begins.{IsUntouched}
use Rattle.dn_volume.specs.Rely.{LeavesRest, IsFor, IsWordOf, StayInHand}
use Rattle.dn_volume.proofs.Lefts.{left_still}
use Rattle.dn_volume.proofs.Stills.{still_same}
use Rattle.dn_volume.proofs.OthersStay.{others_stay}
use Rattle.dn_volume.proofs.MappingsMoved.{mappings_counted}
use Rattle.dn_volume.proofs.SameRoom.{inodes_same}
use Rattle.log_clean.specs.Beginning.{MakesQueueRoom}

-- the same device stands for the same disk
module _ (d : Disk) (g : Geometry) (s t : State) (agree : Agree s.now s.past) (device : IsSame s t) where
  pub fast_same : StandsFast d g s → StandsFast d g t
  fast_same was = record {
    geometry = was.geometry;
    long = ap length device.now ∙ was.long;
    valid = was.valid;
    stands = record {
      within = λ a v says. subst (λ (ws : List ℕ). a < length ws) (sym device.now) (was.stands.within a v says);
      reads = λ a v says. ap (λ (ws : List ℕ). slice_index ws a) device.now ∙ was.stands.reads a v says;
      settled = λ a v says. settled_same s t a device (was.stands.settled a v says);
    };
  }

  pub leaves_same : (who : ℕ) → LeavesRest who [] [] d d s t
  leaves_same who = record {
    rest = record {
      geometry = refl;
      inode = λ i out. refl;
      named_so = λ i other some out. ((λ is. is), (λ is. is));
      word = λ page k read. refl;
      unused = λ page out unused. unused;
      slots = λ i idx m in_table out is. refl;
      counting = λ row has some. record { still = row; there = has; slot = refl; page = refl; print = refl };
    };
    only = stores_only-same (IsWordOf [] [] d) s t agree device;
    others = λ q a other out lt flushed. flushed_same s t q a device flushed;
  }

  pub for_none : (b : Parts) (who : ℕ) → IsFor d b who [] []
  for_none b who = record { inode = λ i has. absurd (none_listed i has); page = λ page has. absurd (none_listed page has) }

module _ (d : Disk) (b c : Parts) (s t : State) (v : IsVolume d b s) (device : IsSame s t) (agree : Agree s.now s.past) (made : MakesQueueRoom b c)
    (spare : (t.spare ≡ s.spare) ⊎ (b.owed.units ≤ t.spare)) where
  abbrev b' : Parts
  b' = record b { queue = c.queue }

  flies_on : (q : ℕ) (f : Flight) → Flies b q f → Flies b' q f
  flies_on q f flies = record { client = flies.client; is = flies.is }

  flies_was : (q : ℕ) (f : Flight) → Flies b' q f → Flies b q f
  flies_was q f flies = record { client = flies.client; is = flies.is }

  holds_on : (who ino : ℕ) → Holds b who ino → Holds b' who ino
  holds_on who ino (by_client f flies has) = by_client f (flies_on who f flies) has
  holds_on who ino (by_daemon item him is same) = by_daemon item him is same
  holds_on who ino (by_cleaning x him is same) = by_cleaning x him is same

  holds_was : (who ino : ℕ) → Holds b' who ino → Holds b who ino
  holds_was who ino (by_client f flies has) = by_client f (flies_was who f flies) has
  holds_was who ino (by_daemon item him is same) = by_daemon item him is same
  holds_was who ino (by_cleaning x him is same) = by_cleaning x him is same

  takes_on : (who page : ℕ) → Takes b who page → Takes b' who page
  takes_on who page (for_client f flies has) = for_client f (flies_on who f flies) has
  takes_on who page (for_cleaning x him is has) = for_cleaning x him is has

  takes_was : (who page : ℕ) → Takes b' who page → Takes b who page
  takes_was who page (for_client f flies has) = for_client f (flies_was who f flies) has
  takes_was who page (for_cleaning x him is has) = for_cleaning x him is has

  waits_on : (ino slot : ℕ) → IsWaiting b ino slot → IsWaiting b' ino slot
  waits_on ino slot (in_queue work n has of_ino of_slot at round) =
      in_queue work n (subst (λ (ws : List Work). Contains ws work) (sym made.queue) has) of_ino of_slot at round
  waits_on ino slot (is_begun item is of_ino of_slot) = is_begun item is of_ino of_slot

  fast : StandsFast d b.geometry t
  fast = fast_same d b.geometry s t agree device v.fast

  stay : ((q : ℕ) (f : Flight) → q ≢ 0 → Flies b' q f → IsFlight d q f t) × StayInHand 0 d b' t
  stay = others_stay 0 [] [] d d b b' s t v fast (for_none d b.geometry s t agree device b 0) (leaves_same d b.geometry s t agree device 0)
      (record { flights = λ q some ne. refl; sharing = λ ne. refl; cleaning = λ ne. refl }) (λ ne. refl)

  counts : AreCounted d b'
  counts = mappings_counted d d b b' (λ slot. 0) (λ slot. 0) (record {
    rows_same = refl;
    mappings_move = λ row has. refl;
    raised_move = λ slot. omega arith;
    added_move = λ slot. omega arith;
    dropped_move = λ slot. omega arith;
    zero_same = refl;
    few = v.counts.few;
  }) v.counts

  room : HasRoom b' t
  room = record {
    owes = record {
      units = v.room.owes.units;
      trace = v.room.owes.trace;
      history = v.room.owes.history;
      queue = v.room.owes.queue;
      releases = v.room.owes.releases;
    };
    units = let was = v.room.units in ⊎_elim (λ (e : t.spare ≡ s.spare). omega (arith, e, was)) (λ (le : b.owed.units ≤ t.spare). le) spare;
    trace = v.room.trace;
    history = v.room.history;
    queue = let was = v.room.queue in let more = made.room in omega (arith, was, more);
    releases = v.room.releases;
    names = v.room.names;
    places = λ who f x n flies data_is at. v.room.places who f x n (flies_was who f flies) data_is at;
  }

  with_room : IsVolume d b' t
  with_room = record {
    fast = fast;
    running = v.running;
    names = v.names;
    inodes = v.inodes;
    holders = record {
      told = λ ino who n at. let one = v.holders.told ino who n at in (λ x. holds_on who ino (one.0 x), λ x. one.1 (holds_was who ino x));
      in_table = λ ino who holds. v.holders.in_table ino who (holds_was who ino holds);
    };
    space = record {
      pages = v.space.pages;
      in_order = v.space.in_order;
      taker = v.space.taker;
      free = v.space.free;
      takes = λ who page takes. v.space.takes who page (takes_was who page takes);
      taken = λ page some. takes_on (v.space.taker page) page (v.space.taken page some);
      unused = v.space.unused;
      some = v.space.some;
      left = left_still b b' refl (takes_on 16) v.space.left;
    };
    table = v.table;
    counts = counts;
    flights = record {
      clients = v.flights.clients;
      each = λ q f flies. stay.0 q f (let some = flies.client in λ none. omega (arith, some, none)) flies;
    };
    queue = record { waits = λ ino idx m place undone. waits_on ino m.slot (v.queue.waits ino idx m place undone) };
    sharing = stay.1.sharing (λ e. omega (arith, e));
    reclaiming = record {
      waiting = v.reclaiming.waiting;
      zero_check = v.reclaiming.zero_check;
      raised = v.reclaiming.raised;
    };
    cleaning = stay.1.cleaning (λ e. omega (arith, e));
    pointers = v.pointers;
    room = room;
    trace = v.trace;
    still = still_same b b' s t device flies_on v.still;
  }

  pub grown : IsVolume d c t
  grown = subst (λ (x : Parts). IsVolume d x t) (sym made.parts) with_room

pub same_but_room : (b c : Parts) → MakesQueueRoom b c → SameButRoom b c
same_but_room b c made = let is = made.parts in record {
  work = record {
    geometry = ap (λ (p : Parts). p.geometry) is;
    names = ap (λ (p : Parts). p.names.map) is;
    fact = ap (λ (p : Parts). p.fact) is;
    queue = made.queue;
    sharing = ap (λ (p : Parts). p.sharing) is;
    zero_check = ap (λ (p : Parts). p.reclaiming.zero_check) is;
    raised = ap (λ (p : Parts). p.reclaiming.raised) is;
    releases = ap (λ (p : Parts). p.reclaiming.releases.items) is;
    waiting = ap (λ (p : Parts). p.reclaiming.waiting) is;
    cleaning = ap (λ (p : Parts). p.reclaiming.cleaning) is;
    trace = ap (λ (p : Parts). p.trace.items) is;
    stopped = ap (λ (p : Parts). p.stopped) is;
  };
  free = ap (λ (p : Parts). p.free) is;
  inodes = subst (λ (ns : List InodeState). OfInodes IsSameInode b.inodes.items ns) (sym (ap (λ (p : Parts). p.inodes.items) is))
      (inodes_same b.inodes.items);
  flights = ap (λ (p : Parts). p.flights.items) is;
}

-- nothing but room differs
pub untouched_grown : {D F : Type 0} (state : D → State) (w w1 : Volume D F) → Agree (state w.device).now (state w.device).past
    → IsSame (state w.device) (state w1.device) → MakesQueueRoom w.parts w1.parts
    → ((state w1.device).spare ≡ (state w.device).spare) ⊎ (w.parts.owed.units ≤ (state w1.device).spare)
    → (d : Disk) → IsVolume d w.parts (state w.device) → IsUntouched state w w1 d
untouched_grown state w w1 agree device made spare d v = record {
  volume = grown d w.parts w1.parts (state w.device) (state w1.device) v device agree made spare;
  device = device;
  same = same_but_room w.parts w1.parts made;
  history = ap (λ (p : Parts). p.history.items) made.parts;
  made = ap (λ (p : Parts). p.made) made.parts;
}
