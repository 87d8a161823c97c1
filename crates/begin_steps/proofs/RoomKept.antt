-- Where only room is made, the volume in memory agrees with the same disk.
use Rattle.std.proofs.Common.{◌≡◌, ◌≢◌, ⊎_elim, ℕ, ◌<◌, ◌≤◌, List, [], length, refl, sym, ◌∙◌, ap, subst, arith, Option, Some}
use Rattle.std.specs.Prelude.{All, Contains, slice_get, slice_index}
use Rattle.std.specs.FinMap.{FinMap, get}
use Rattle.std.specs.Ordering.{nat_cmp}
use Rattle.std.specs.Cmp.Lexicographic.{slice_cmp}
use Rattle.std.proofs.lemmas.Option.{slice_get_cases, slice_get_within}
use Rattle.pm_device.specs.State.{State, IsSame, Agree}
use Rattle.pm_device.proofs.Only.{stores_only-same}
use Rattle.pm_device.proofs.Flushed.{settled_same, flushed_same}
use Rattle.pm_layout.specs.declared.Geometry.{Geometry}
use Rattle.pm_layout.specs.Geometry.{slots}
use Rattle.page_alloc.specs.Free.{FreePages, IsInOrder}
use Rattle.file_index.specs.declared.page_map.Mapping.{Mapping}
use Rattle.law_unique.proofs.Listings.{none_listed}
use Rattle.law_write.specs.Events.{IsUnused}
use Rattle.dedupe_queue.specs.declared.Work.{Work}
use Rattle.dn_model.specs.Disk.{Disk}
use Rattle.dn_model.specs.declared.op.CountChange.{CountChange}
use Rattle.dn_volume.specs.declared.flight.Flight.{Flight}
use Rattle.dn_volume.specs.declared.background.DyingPlace.{DyingPlace}
use Rattle.dn_volume.specs.declared.volume.InodeState.{InodeState}
use Rattle.dn_volume.specs.declared.volume.Parts.{Parts}
use Rattle.dn_volume.specs.declared.volume.Room.{Room}
use Rattle.dn_volume.specs.Parties.{Flies, Holds, by_client, by_daemon, by_cleaning, Takes, for_client, for_cleaning}
use Rattle.dn_volume.specs.Inodes.{AreHolders, as_use}
use Rattle.dn_volume.specs.Space.{HasSpace, AreSlotsOf}
use Rattle.dn_volume.specs.Balance.{times, AreCounted}
use Rattle.dn_volume.specs.Flights.{IsFlight}
use Rattle.dn_volume.specs.Shares.{IsWaiting, in_queue, is_begun}
use Rattle.dn_volume.specs.Reclaims.{one_if}
use Rattle.dn_volume.specs.Reserve.{HasRoom, owed_sum, units_to_share, changes_to_share, units_to_clean, queue_to_clean}
use Rattle.dn_volume.specs.Kept.{OfInodes, IsSameInode}
use Rattle.dn_volume.specs.Agrees.{StandsFast, IsVolume}
use Rattle.dn_volume.specs.Rely.{LeavesRest, IsFor, IsWordOf, StayInHand}
use Rattle.dn_volume.proofs.Lefts.{left_still}
use Rattle.dn_volume.proofs.Stills.{still_same}
use Rattle.dn_volume.proofs.OthersStay.{others_stay}
use Rattle.dn_volume.proofs.MappingsMoved.{mappings_counted}
use Rattle.dn_volume.proofs.HandsKept.{flies_still, flies_before, owed_same, raised_same, added_same, others_same}
use Rattle.begin_steps.specs.Answering.{KeepsRoom}

-- an inode's state was another before
pub inode_was : (P : ℕ → InodeState → InodeState → Type 0) (old new : List InodeState) → OfInodes P old new → (ino : ℕ) (n' : InodeState)
    → slice_get new ino ≡ Some n' → (n : InodeState) × (slice_get old ino ≡ Some n) × P ino n n'
inode_was P old new of ino n' at = ⊎_elim (λ found. (found.0, found.2, of.each ino found.0 n' found.2 at))
    (λ past. absurd (let lt = slice_get_within new ino n' at in omega (arith, lt, past.0, of.all))) (slice_get_cases old ino).1

-- and becomes another
pub inode_is : (P : ℕ → InodeState → InodeState → Type 0) (old new : List InodeState) → OfInodes P old new → (ino : ℕ) (n : InodeState)
    → slice_get old ino ≡ Some n → (n' : InodeState) × (slice_get new ino ≡ Some n') × P ino n n'
inode_is P old new of ino n at = ⊎_elim (λ found. (found.0, found.2, of.each ino n found.0 at found.2))
    (λ past. absurd (let lt = slice_get_within old ino n at in omega (arith, lt, past.0, of.all))) (slice_get_cases new ino).1

pub some_same : {X : Type 0} (o : Option X) (x y : X) → o ≡ Some x → o ≡ Some y → x ≡ y
some_same o x y one other = cc

-- the same device stands for the same disk
module _ (d : Disk) (g : Geometry) (s t : State) (agree : Agree s.now s.past) (device : IsSame s t) where
  pub fast_same : StandsFast d g s → StandsFast d g t
  fast_same was = record {
    geometry = was.geometry;
    long = ap length device.now ∙ was.long;
    valid = was.valid;
    stands = record {
      within = λ a v says. subst (λ (ws : List ℕ). a < length ws) (sym device.now) (was.stands.within a v says);
      reads = λ a v says. ap (λ (ws : List ℕ). slice_index ws a) device.now ∙ was.stands.reads a v says;
      settled = λ a v says. settled_same s t a device (was.stands.settled a v says);
    };
  }

  pub leaves_same : (who : ℕ) → LeavesRest who [] [] d d s t
  leaves_same who = record {
    rest = record {
      geometry = refl;
      inode = λ i out. refl;
      named_so = λ i other some out. ((λ is. is), (λ is. is));
      word = λ page k read. refl;
      unused = λ page out unused. unused;
      slots = λ i idx m in_table out is. refl;
      counting = λ row has some. record { still = row; there = has; slot = refl; page = refl; print = refl };
    };
    only = stores_only-same (IsWordOf [] [] d) s t agree device;
    others = λ q a other out lt flushed. flushed_same s t q a device flushed;
  }

  pub for_none : (b : Parts) (who : ℕ) → IsFor d b who [] []
  for_none b who = record { inode = λ i has. absurd (none_listed i has); page = λ page has. absurd (none_listed page has) }

module _ (d : Disk) (b b' : Parts) (s t : State) (v : IsVolume d b s) (agree : Agree s.now s.past) (device : IsSame s t)
    (keeps : KeepsRoom b b') (units : b.owed.units ≤ t.spare) where
  abbrev inodes_of : OfInodes IsSameInode b.inodes.items b'.inodes.items
  inodes_of = keeps.same.inodes

  still' : (q : ℕ) (f : Flight) → Flies b q f → Flies b' q f
  still' = flies_still b b' keeps.same.flights

  before : (q : ℕ) (f : Flight) → Flies b' q f → Flies b q f
  before = flies_before b b' keeps.same.flights

  holds_still : (q ino : ℕ) → Holds b q ino → Holds b' q ino
  holds_still q ino (by_client f flies has) = by_client f (still' q f flies) has
  holds_still q ino (by_daemon item him is same) = by_daemon item him (keeps.same.work.sharing ∙ is) same
  holds_still q ino (by_cleaning c him is same) = by_cleaning c him (keeps.same.work.cleaning ∙ is) same

  holds_before : (q ino : ℕ) → Holds b' q ino → Holds b q ino
  holds_before q ino (by_client f flies has) = by_client f (before q f flies) has
  holds_before q ino (by_daemon item him is same) = by_daemon item him (sym keeps.same.work.sharing ∙ is) same
  holds_before q ino (by_cleaning c him is same) = by_cleaning c him (sym keeps.same.work.cleaning ∙ is) same

  takes_still : (q page : ℕ) → Takes b q page → Takes b' q page
  takes_still q page (for_client f flies has) = for_client f (still' q f flies) has
  takes_still q page (for_cleaning c him is has) = for_cleaning c him (keeps.same.work.cleaning ∙ is) has

  takes_before : (q page : ℕ) → Takes b' q page → Takes b q page
  takes_before q page (for_client f flies has) = for_client f (before q f flies) has
  takes_before q page (for_cleaning c him is has) = for_cleaning c him (sym keeps.same.work.cleaning ∙ is) has

  waits_still : (ino slot : ℕ) → IsWaiting b ino slot → IsWaiting b' ino slot
  waits_still ino slot (in_queue work n has at_ino at_slot at round) =
      let now = inode_is IsSameInode b.inodes.items b'.inodes.items inodes_of ino n at in
      in_queue work now.0 (subst (λ (ws : List Work). Contains ws work) (sym keeps.same.work.queue) has) at_ino at_slot now.1
      (round ∙ sym now.2.same.round)
  waits_still ino slot (is_begun item is at_ino at_slot) = is_begun item (keeps.same.work.sharing ∙ is) at_ino at_slot

  stay : ((q : ℕ) (f : Flight) → q ≢ 0 → Flies b' q f → IsFlight d q f t) × StayInHand 0 d b' t
  stay = others_stay 0 [] [] d d b b' s t v (fast_same d b.geometry s t agree device v.fast) (for_none d b.geometry s t agree device b 0)
      (leaves_same d b.geometry s t agree device 0) (others_same b b' keeps.same.flights keeps.same.work.sharing keeps.same.work.cleaning 0)
      (λ other. keeps.same.work.raised)

  holders : AreHolders d b'
  holders = record {
    told = λ ino who n' at.
        let was = inode_was IsSameInode b.inodes.items b'.inodes.items inodes_of ino n' at in
        let one = v.holders.told ino who was.0 was.1 in
        (λ is. holds_still who ino (one.0 (sym was.2.holder ∙ is)), λ holds. was.2.holder ∙ one.1 (holds_before who ino holds));
    in_table = λ ino who holds. v.holders.in_table ino who (holds_before who ino holds);
  }

  space : HasSpace d b'
  space = record {
    pages = ap (λ (x : FreePages). x.pages) keeps.same.free ∙ v.space.pages;
    in_order = subst IsInOrder (sym keeps.same.free) v.space.in_order;
    taker = v.space.taker;
    free = λ page. subst (λ (x : FreePages). (Contains x.free page → IsUnused d page × (v.space.taker page ≡ 0)) × (IsUnused d page ×
        (v.space.taker page ≡ 0) → Contains x.free page))
        (sym keeps.same.free) (v.space.free page);
    takes = λ who page takes. v.space.takes who page (takes_before who page takes);
    taken = λ page some. takes_still (v.space.taker page) page (v.space.taken page some);
    unused = v.space.unused;
    some = subst (λ (x : FreePages). 1 ≤ length x.free) (sym keeps.same.free) v.space.some;
    left = left_still b b' keeps.same.free (takes_still 16) v.space.left;
  }

  releases_long : length b'.reclaiming.releases.items ≡ length b.reclaiming.releases.items
  releases_long = ap (λ (xs : List ℕ). length xs) keeps.same.work.releases

  raised_if : one_if b'.reclaiming.raised ≡ one_if b.reclaiming.raised
  raised_if = ap (λ (x : Option DyingPlace). one_if x) keeps.same.work.raised

  check_if : one_if b'.reclaiming.zero_check ≡ one_if b.reclaiming.zero_check
  check_if = ap (λ (x : Option ℕ). one_if x) keeps.same.work.zero_check

  sum_same : (kind : Room → ℕ) → owed_sum b' kind ≡ owed_sum b kind
  sum_same = owed_same b b' keeps.same.flights

  owed_as : (kind : Room → ℕ) → kind b'.owed ≡ kind b.owed
  owed_as kind = ap kind keeps.owed

  counts : AreCounted d b'
  counts = mappings_counted d d b b' (λ slot. 0) (λ slot. 0) (record {
    rows_same = refl;
    mappings_move = λ row has. refl;
    raised_move = λ slot. let same = raised_same b b' keeps.same.flights keeps.same.work.sharing keeps.same.work.raised slot in omega (arith, same);
    added_move = λ slot. let same = added_same b b' keeps.same.flights keeps.same.work.sharing slot in omega (arith, same);
    dropped_move = λ slot. let same = ap (times slot) keeps.same.work.releases in omega (arith, same);
    zero_same = keeps.same.work.zero_check;
    few = let sum = sum_same (λ room. room.releases) in let was = v.counts.few in omega (arith, was, releases_long, raised_if, sum);
  }) v.counts

  room : HasRoom b' t
  room =
      let was = v.room in
      let sums_units = sum_same (λ r. r.units) in
      let sums_trace = sum_same (λ r. r.trace) in
      let sums_history = sum_same (λ r. r.history) in
      let sums_queue = sum_same (λ r. r.queue) in
      let sums_releases = sum_same (λ r. r.releases) in
      let o_units = owed_as (λ r. r.units) in
      let o_trace = owed_as (λ r. r.trace) in
      let o_history = owed_as (λ r. r.history) in
      let o_queue = owed_as (λ r. r.queue) in
      let o_releases = owed_as (λ r. r.releases) in
      let share_units = ap units_to_share keeps.same.work.sharing in
      let share_trace = ap changes_to_share keeps.same.work.sharing in
      let clean_units = ap units_to_clean keeps.same.work.cleaning in
      let clean_queue = ap queue_to_clean keeps.same.work.cleaning in
      let w_units = was.owes.units in
      let w_trace = was.owes.trace in
      let w_history = was.owes.history in
      let w_queue = was.owes.queue in
      let w_releases = was.owes.releases in
      let t_trace = keeps.trace was.trace in
      let t_history = keeps.history was.history in
      let t_queue = was.queue in
      let q_queue = keeps.queue in
      let t_releases = keeps.releases was.releases in
      let t_names = was.names in
      let q_names = keeps.names in
      record {
        owes = record {
          units = omega (arith, w_units, sums_units, o_units, share_units, raised_if, check_if, clean_units);
          trace = omega (arith, w_trace, sums_trace, o_trace, share_trace);
          history = omega (arith, w_history, sums_history, o_history);
          queue = omega (arith, w_queue, sums_queue, o_queue, clean_queue);
          releases = omega (arith, w_releases, sums_releases, o_releases, raised_if);
        };
        units = omega (arith, o_units, units);
        trace = omega (arith, t_trace, o_trace);
        history = omega (arith, t_history, o_history);
        queue = omega (arith, t_queue, q_queue, o_queue);
        releases = omega (arith, t_releases, o_releases);
        names = omega (arith, t_names, q_names, o_history);
        places = λ who f c n' flies data_is at.
            let had = inode_was IsSameInode b.inodes.items b'.inodes.items inodes_of f.ino n' at in
            let few = v.room.places who f c had.0 (before who f flies) data_is had.1 in
            let more = keeps.places f.ino had.0 n' had.1 at in
            omega (arith, few, more);
      }

  pub room_kept : IsVolume d b' t
  room_kept = record {
    fast = subst (λ (g : Geometry). StandsFast d g t) (sym keeps.same.work.geometry) (fast_same d b.geometry s t agree device v.fast);
    running = keeps.same.work.stopped ∙ v.running;
    names = record { leads = λ name. ap (λ (m : FinMap (slice_cmp nat_cmp) ℕ). get m name) keeps.same.work.names ∙ v.names.leads name };
    inodes = record {
      all = inodes_of.all ∙ v.inodes.all;
      each = λ ino n' at.
          let from = inode_was IsSameInode b.inodes.items b'.inodes.items inodes_of ino n' at in
          let was = v.inodes.each ino from.0 from.1 in record {
            use_is = was.use_is ∙ ap as_use (sym from.2.same.used);
            size_is = λ used. was.size_is used ∙ sym from.2.same.size;
            small = let few = was.small in let same = from.2.same.size in omega (arith, few, same);
            log_pages = λ used. was.log_pages used ∙ sym from.2.same.log_pages;
            places = λ idx. ap (λ (m : FinMap nat_cmp Mapping). get m idx) from.2.same.places ∙ was.places idx;
          };
    };
    holders = holders;
    space = space;
    table = subst (AreSlotsOf d) (sym keeps.same.work.fact) v.table;
    counts = counts;
    flights = record {
      clients = ap length keeps.same.flights ∙ v.flights.clients;
      each = λ q f flies. stay.0 q f (let some = flies.client in λ none. omega (arith, some, none)) flies;
    };
    queue = record { waits = λ ino idx m place undone. waits_still ino m.slot (v.queue.waits ino idx m place undone) };
    sharing = stay.1.sharing (λ e. omega (arith, e));
    reclaiming = record {
      waiting = let was = v.reclaiming.waiting in let same = keeps.same.work.waiting in
          omega (arith, was, same, releases_long, raised_if, check_if);
      zero_check = λ slot is. v.reclaiming.zero_check slot (sym keeps.same.work.zero_check ∙ is);
      raised = stay.1.raised (λ e. omega (arith, e));
    };
    cleaning = stay.1.cleaning (λ e. omega (arith, e));
    pointers = v.pointers;
    room = room;
    trace = subst (λ (g : Geometry). All (λ (x : CountChange). x.slot < slots g) b'.trace.items) (sym keeps.same.work.geometry)
        (subst (λ (xs : List CountChange). All (λ (x : CountChange). x.slot < slots b.geometry) xs) (sym keeps.same.work.trace) v.trace);
    still = still_same b b' s t device still' v.still;
  }
