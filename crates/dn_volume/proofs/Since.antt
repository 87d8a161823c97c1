-- An event after one that changed nothing but the room that is kept.
use Rattle.std.proofs.Common.{◌≡◌, ◌⊎◌, ℕ, ◌+◌, ◌-◌, ◌<◌, ◌≤◌, List, ◌++◌, length, sym, ◌∙◌, ap, subst, arith}
use Rattle.std.specs.Prelude.{Option}
use Rattle.pm_device.specs.Past.{Past, moment}
use Rattle.pm_device.specs.State.{State, Rose}
use Rattle.pm_device.specs.Settled.{Extends, LeavesOnly}
use Rattle.dn_model.specs.Disk.{Disk}
use Rattle.dn_model.specs.Own.{Print}
use Rattle.dn_model.specs.declared.op.Op.{Op}
use Rattle.dn_model.specs.declared.op.CountChange.{CountChange}
use Rattle.dn_volume.specs.declared.flight.Flight.{Flight}
use Rattle.dn_volume.specs.declared.volume.Volume.{Volume}
use Rattle.dn_volume.specs.Parties.{SameOthers, KeepsOps, flight_at}
use Rattle.dn_volume.specs.Begins.{IsUntouched}
use Rattle.dn_volume.specs.Events.{Counts, Moves, MovesOn, Breaks}
use Rattle.page_alloc.specs.Free.{FreePages}
use Rattle.dedupe_queue.specs.declared.Work.{Work}
use Rattle.dn_volume.specs.Works.{ReclaimLowers, work_left, taken_to_clean, clean_work, sharing_events}
use Rattle.dn_volume.proofs.SameRoom.{room_joins}

module _ {D F : Type 0} (state : D → State) (w w1 w2 : Volume D F) (print : Print) (who : ℕ) (d : Disk) (un : IsUntouched state w w1 d) where
  leaves_since : (u : State) (P : List ℕ → Type 0) → LeavesOnly (state w1.device) u P → LeavesOnly (state w.device) u P
  leaves_since u P is = record {
    extends = subst (λ (past : Option Past). Extends past u.past) un.device.past is.extends;
    each = λ m c late left. is.each m c (subst (λ (past : Option Past). moment past ≤ m) (sym un.device.past) late) left;
  }

  rose_since : (n : ℕ) → Rose (state w1.device).faults n → Rose (state w.device).faults n
  rose_since n = subst (λ (k : ℕ). Rose k n) un.device.faults

  counts_since : Counts w1.parts w2.parts → Counts w.parts w2.parts
  counts_since = subst (λ (n : ℕ). (w2.parts.made ≡ n + 1) ⊎ ((n ≡ 18446744073709551615) × (w2.parts.made ≡ n))) un.made

  flight_was : (k : ℕ) → flight_at w1.parts.flights.items k ≡ flight_at w.parts.flights.items k
  flight_was k = ap (λ (fs : List (Option Flight)). flight_at fs k) un.same.flights

  others_since : SameOthers who w1.parts w2.parts → SameOthers who w.parts w2.parts
  others_since is = record {
    flights = λ q some ne. is.flights q some ne ∙ flight_was (q - 1);
    sharing = λ ne. is.sharing ne ∙ un.same.work.sharing;
    cleaning = λ ne. is.cleaning ne ∙ un.same.work.cleaning;
  }

  ops_since : KeepsOps w1.parts w2.parts → KeepsOps w.parts w2.parts
  ops_since is = record {
    kept = λ q f flies. is.kept q f (record { client = flies.client; is = flight_was (q - 1) ∙ flies.is });
    only = λ q f flies. let was = is.only q f flies in (was.0, record { client = was.1.client; is = sym (flight_was (q - 1)) ∙ was.1.is }, was.2);
  }

  faults_since : (n : ℕ) → (state w1.device).faults ≤ n → (state w.device).faults ≤ n
  faults_since n = subst (λ (k : ℕ). k ≤ n) un.device.faults

  moves_since : (e : Disk) → Moves state print who w1 w2 d e → Moves state print who w w2 d e
  moves_since e is = record {
    volume = is.volume;
    images = leaves_since (state w2.device) _ is.images;
    own = is.own;
    accounts = is.accounts;
    alone = is.alone;
    traces = record {
      more = is.traces.more;
      trace = is.traces.trace ∙ ap (λ (xs : List CountChange). xs ++ is.traces.more) un.same.work.trace;
      words = is.traces.words;
    };
    others = others_since is.others;
    counts = counts_since is.counts;
    geometry = is.geometry ∙ un.same.work.geometry;
    faults = faults_since _ is.faults;
  }

  pub moves_on_since : MovesOn state print who w1 w2 d → MovesOn state print who w w2 d
  moves_on_since is = record {
    after = is.after;
    moves = moves_since is.after is.moves;
    quiet = is.quiet;
    ops = ops_since is.ops;
    history = is.history ∙ un.history;
  }

  pub breaks_since : (answers : Option Op) → Breaks state print who answers w1 w2 d → Breaks state print who answers w w2 d
  breaks_since answers is = record {
    stopped = is.stopped;
    after = is.after;
    images = leaves_since (state w2.device) _ is.images;
    rose = rose_since _ is.rose;
    quiet = is.quiet;
    ops = ops_since is.ops;
    answering = is.answering;
    answered = is.answered;
    history = is.history ∙ un.history;
    others = others_since is.others;
    trace = record { more = is.trace.more; trace = is.trace.trace ∙ ap (λ (xs : List CountChange). xs ++ is.trace.more) un.same.work.trace };
    geometry = is.geometry ∙ un.same.work.geometry;
    counts = counts_since is.counts;
    faults = faults_since _ is.faults;
  }

  pub untouched_since : IsUntouched state w1 w2 d → IsUntouched state w w2 d
  untouched_since is = record {
    volume = is.volume;
    device = record { now = is.device.now ∙ un.device.now; past = is.device.past ∙ un.device.past; faults = is.device.faults ∙ un.device.faults };
    same = room_joins w.parts w1.parts w2.parts un.same is.same;
    history = is.history ∙ un.history;
    made = is.made ∙ un.made;
  }

  -- the work that was left is the same
  work_since : work_left w1.parts ≡ work_left w.parts
  work_since =
      let same = un.same.work in
      let free = ap (λ (x : FreePages). length x.free) un.same.free in
      let pages = ap (λ (x : FreePages). x.pages) un.same.free in
      let taken = ap taken_to_clean same.cleaning in
      let left = ap clean_work same.cleaning in
      let queue = ap (λ (xs : List Work). length xs) same.queue in
      let shared = ap sharing_events same.sharing in
      omega (arith, free, pages, taken, left, queue, shared, same.waiting)

  pub lowers_since : (n : ℕ) → ReclaimLowers w1.parts w2.parts n → ReclaimLowers w.parts w2.parts n
  lowers_since n less = record {
    left_is = less.left_is;
    less = subst (λ (k : ℕ). work_left w2.parts < k) work_since less.less;
    waiting = subst (λ (k : ℕ). (w2.parts.reclaiming.waiting < k) ⊎ ((k ≡ 0) × (w2.parts.reclaiming.waiting ≡ 0))) un.same.work.waiting less.waiting;
    sharing = less.sharing ∙ un.same.work.sharing;
    queue = λ some. less.queue (subst (λ (k : ℕ). 0 < k) (sym un.same.work.waiting) some) ∙ un.same.work.queue;
    rests = λ rests. less.rests (record {
      none_begun = un.same.work.sharing ∙ rests.none_begun;
      none_waits = un.same.work.queue ∙ rests.none_waits;
    });
    trace = λ none. less.trace (un.same.work.waiting ∙ none) ∙ un.same.work.trace;
  }
