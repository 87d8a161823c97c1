-- A volume for which room was made, and the event after that.
use Rattle.std.proofs.Common.{◌≡◌, ◌≢◌, ◌⊎◌, ⊎_elim, ℕ, ◌<◌, ◌≤◌, List, [], length, refl, sym, ◌∙◌, ap, subst, arith}
use Rattle.std.specs.Prelude.{Option, All, slice_index, vec_len, vec_capacity}
use Rattle.std.specs.VecDeque.{deque_len, deque_capacity}
use Rattle.pm_layout.specs.Geometry.{slots}
use Rattle.pm_device.specs.Past.{Past, moment}
use Rattle.pm_device.specs.State.{State, Agree, IsSame, Rose}
use Rattle.pm_device.specs.Settled.{IsSettled, Anyone, LeavesOnly, OfWord, Each, Extends}
use Rattle.pm_device.specs.Reading.{Stands}
use Rattle.pm_device.proofs.Only.{stores_only-same}
use Rattle.pm_device.proofs.Flushed.{keeps-same}
use Rattle.dn_model.specs.Disk.{Disk, DiskSays}
use Rattle.dn_volume.specs.declared.flight.Flight.{Flight}
use Rattle.dn_model.specs.declared.op.CountChange.{CountChange}
use Rattle.dn_volume.specs.declared.volume.Parts.{Parts}
use Rattle.dn_volume.specs.Parties.{Flies, Holds, by_client, by_daemon, by_cleaning, Takes, for_client, for_cleaning}
use Rattle.dn_volume.specs.Flights.{IsFlight}
use Rattle.dn_volume.specs.Balance.{times, AreCounted}
use Rattle.dn_volume.specs.Shares.{IsWaiting, in_queue, is_begun}
use Rattle.dn_volume.specs.Reserve.{HasRoom}
use Rattle.dn_volume.specs.Agrees.{StandsFast, IsVolume}
use Rattle.dn_volume.specs.Rely.{LeavesRest, IsFor, IsWordOf}
use Rattle.dn_volume.proofs.Stills.{still_same}
use Rattle.dn_volume.proofs.OthersStay.{others_stay}
use Rattle.dn_volume.proofs.MappingsMoved.{mappings_counted}
use Rattle.dn_volume.proofs.Lefts.{left_still}
use Rattle.count_events.proofs.CleaningKept.{cleaning_kept}
use Rattle.count_events.proofs.Settled.{no_client}

module _ (s t : State) (same : IsSame s t) where
  settled_same : (a : ℕ) → IsSettled s a → IsSettled t a
  settled_same a is =
      subst (λ (now : List ℕ). OfWord t.past a (Each (λ x. x ≡ slice_index now a))) (sym same.now)
      (subst (λ (past : Option Past). OfWord past a (Each (λ x. x ≡ slice_index s.now a))) (sym same.past) is)

  pub stands_same : (says : ℕ → ℕ → Type 0) → Stands says s → Stands says t
  stands_same says is = record {
    within = λ a v told. subst (λ (now : List ℕ). a < length now) (sym same.now) (is.within a v told);
    reads = λ a v told. ap (λ (now : List ℕ). slice_index now a) same.now ∙ is.reads a v told;
    settled = λ a v told. settled_same a (is.settled a v told);
  }

  pub leaves_since : (u : State) (P : List ℕ → Type 0) → LeavesOnly t u P → LeavesOnly s u P
  leaves_since u P is = record {
    extends = subst (λ (past : Option Past). Extends past u.past) same.past is.extends;
    each = λ m c late left. is.each m c (subst (λ (past : Option Past). moment past ≤ m) (sym same.past) late) left;
  }

  pub rose_since : (n : ℕ) → Rose t.faults n → Rose s.faults n
  rose_since n = subst (λ (k : ℕ). Rose k n) same.faults

module _ (d : Disk) (b c : Parts) (s t : State) (v : IsVolume d b s) (same : IsSame s t) (agree : Agree s.now s.past)
    (is : c ≡ record b { trace = c.trace; reclaiming = record b.reclaiming { releases = c.reclaiming.releases } })
    (items : c.trace.items ≡ b.trace.items) (len : vec_len c.trace ≡ vec_len b.trace) (capacity : vec_capacity b.trace ≤ vec_capacity c.trace)
    (releases : c.reclaiming.releases.items ≡ b.reclaiming.releases.items) (releases_len : deque_len c.reclaiming.releases ≡ deque_len
    b.reclaiming.releases)
    (releases_capacity : deque_capacity b.reclaiming.releases ≤ deque_capacity c.reclaiming.releases)
    (spare : (t.spare ≡ s.spare) ⊎ (b.owed.units ≤ t.spare)) where
  abbrev b' : Parts
  b' = record b { trace = c.trace; reclaiming = record b.reclaiming { releases = c.reclaiming.releases } }

  holds_still : (who ino : ℕ) → Holds b who ino → Holds b' who ino
  holds_still who ino (by_client f flies has) = by_client f (record { client = flies.client; is = flies.is }) has
  holds_still who ino (by_daemon item him at same) = by_daemon item him at same
  holds_still who ino (by_cleaning cleaning him at same) = by_cleaning cleaning him at same

  holds_before : (who ino : ℕ) → Holds b' who ino → Holds b who ino
  holds_before who ino (by_client f flies has) = by_client f (record { client = flies.client; is = flies.is }) has
  holds_before who ino (by_daemon item him at same) = by_daemon item him at same
  holds_before who ino (by_cleaning cleaning him at same) = by_cleaning cleaning him at same

  takes_still : (who page : ℕ) → Takes b who page → Takes b' who page
  takes_still who page (for_client f flies has) = for_client f (record { client = flies.client; is = flies.is }) has
  takes_still who page (for_cleaning cleaning him at has) = for_cleaning cleaning him at has

  takes_before : (who page : ℕ) → Takes b' who page → Takes b who page
  takes_before who page (for_client f flies has) = for_client f (record { client = flies.client; is = flies.is }) has
  takes_before who page (for_cleaning cleaning him at has) = for_cleaning cleaning him at has

  waits_still : (ino slot : ℕ) → IsWaiting b ino slot → IsWaiting b' ino slot
  waits_still ino slot (in_queue work n has of_ino of_slot at round) = in_queue work n has of_ino of_slot at round
  waits_still ino slot (is_begun item at of_ino of_slot) = is_begun item at of_ino of_slot

  fast : StandsFast d b.geometry t
  fast = record {
    geometry = v.fast.geometry;
    long = ap (λ (now : List ℕ). length now) same.now ∙ v.fast.long;
    valid = v.fast.valid;
    stands = stands_same s t same (DiskSays d) v.fast.stands;
  }

  leaves : LeavesRest 16 [] [] d d s t
  leaves = record {
    rest = record {
      geometry = refl;
      inode = λ i out. refl;
      named_so = λ i name some out. (λ x. x, λ x. x);
      word = λ page k read. refl;
      unused = λ page out unused. unused;
      slots = λ i idx m in_table out mapped. refl;
      counting = λ row has some. record { still = row; there = has; slot = refl; page = refl; print = refl };
    };
    only = stores_only-same (IsWordOf [] [] d) s t agree same;
    others = λ q a ne out inside flushed. (keeps-same Anyone (λ x. ⊥) s t same).flushed q a tt (λ no. no) inside flushed;
  }

  for_it : IsFor d b 16 [] []
  for_it = record { inode = λ i has. absurd (omega (arith, has.1)); page = λ page has. absurd (omega (arith, has.1)) }

  stay : (q : ℕ) (f : Flight) → q ≢ 16 → Flies b' q f → IsFlight d q f t
  stay = (others_stay 16 [] [] d d b b' s t v fast for_it leaves (record { flights = λ q some ne. refl; sharing = λ ne. refl; cleaning = λ ne. refl }) (λ ne. refl)).0

  below : (q : ℕ) (f : Flight) → Flies b' q f → q ≢ 16
  below q f flies e = no_client b q f v.flights.clients (omega (arith, e)) (record { client = flies.client; is = flies.is })

  room : HasRoom b' t
  room = record {
    owes = record {
      units = v.room.owes.units;
      trace = v.room.owes.trace;
      history = v.room.owes.history;
      queue = v.room.owes.queue;
      releases = v.room.owes.releases;
    };
    units = ⊎_elim (λ (e : t.spare ≡ s.spare). omega (arith, e, v.room.units)) (λ (le : b.owed.units ≤ t.spare). le) spare;
    trace = omega (arith, v.room.trace, len, capacity);
    history = v.room.history;
    queue = v.room.queue;
    releases = omega (arith, v.room.releases, releases_len, releases_capacity);
    names = v.room.names;
    places = λ who f x n flies data_is at. v.room.places who f x n (record { client = flies.client; is = flies.is }) data_is at;
  }

  same_length : length c.reclaiming.releases.items ≡ length b.reclaiming.releases.items
  same_length = ap (λ (xs : List ℕ). length xs) releases

  counts : AreCounted d b'
  counts = mappings_counted d d b b' (λ slot. 0) (λ slot. 0) (record {
    rows_same = refl;
    mappings_move = λ row has. refl;
    raised_move = λ slot. omega arith;
    added_move = λ slot. omega arith;
    dropped_move = λ slot. let same = ap (times slot) releases in omega (arith, same);
    zero_same = refl;
    few = omega (arith, v.counts.few, same_length);
  }) v.counts

  with_room : IsVolume d b' t
  with_room = record {
    fast = fast;
    running = v.running;
    names = v.names;
    inodes = v.inodes;
    holders = record {
      told = λ ino who n at. let one = v.holders.told ino who n at in (λ x. holds_still who ino (one.0 x), λ x. one.1 (holds_before who ino x));
      in_table = λ ino who holds. v.holders.in_table ino who (holds_before who ino holds);
    };
    space = record {
      pages = v.space.pages;
      in_order = v.space.in_order;
      taker = v.space.taker;
      free = v.space.free;
      takes = λ who page takes. v.space.takes who page (takes_before who page takes);
      taken = λ page some. takes_still (v.space.taker page) page (v.space.taken page some);
      unused = v.space.unused;
      some = v.space.some;
      left = left_still b b' refl (takes_still 16) v.space.left;
    };
    table = v.table;
    counts = counts;
    flights = record { clients = v.flights.clients; each = λ q f flies. stay q f (below q f flies) flies };
    queue = record { waits = λ ino idx m place undone. waits_still ino m.slot (v.queue.waits ino idx m place undone) };
    sharing = v.sharing;
    reclaiming = record {
      waiting = omega (arith, v.reclaiming.waiting, same_length);
      zero_check = v.reclaiming.zero_check;
      raised = v.reclaiming.raised;
    };
    cleaning = cleaning_kept [] [] d d b b' s t v leaves.rest leaves.only refl (λ cleaning at has. absurd (omega (arith, has.1)))
        (λ cleaning at page took has. absurd (omega (arith, has.1)));
    pointers = v.pointers;
    room = room;
    trace = subst (All (λ (change : CountChange). change.slot < slots b.geometry)) (sym items) v.trace;
    still = still_same b b' s t same (λ q f flies. record { client = flies.client; is = flies.is }) v.still;
  }

  pub room_volume : IsVolume d c t
  room_volume = subst (λ (x : Parts). IsVolume d x t) (sym is) with_room
