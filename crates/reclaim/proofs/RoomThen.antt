-- An event after room was made for it.
use Rattle.std.proofs.Common.{◌≡◌, ◌⊎◌, ℕ, ◌+◌, ◌-◌, ◌<◌, ◌≤◌, List, ◌++◌, refl, sym, ◌∙◌, ap, subst}
use Rattle.std.specs.Prelude.{Option, None}
use Rattle.pm_device.specs.State.{State, Agree}
use Rattle.dn_model.specs.Disk.{Disk}
use Rattle.dn_model.specs.Own.{Print}
use Rattle.dn_model.specs.declared.op.Op.{Op}
use Rattle.dn_model.specs.declared.op.CountChange.{CountChange}
use Rattle.dn_volume.specs.declared.outcome.Outcome.{Outcome}
use Rattle.dn_volume.specs.declared.outcome.Outcome.TheVariants.{Running, Done, Busy, Released, Idle, NotYours, NoMemory, Stopped}
use Rattle.dn_volume.specs.declared.volume.Parts.{Parts}
use Rattle.dn_volume.specs.declared.volume.Volume.{Volume}
use Rattle.dn_volume.specs.Parties.{SameOthers, KeepsOps, flight_at}
use Rattle.dn_volume.specs.Agrees.{IsVolume, Agrees, agrees_with}
use Rattle.dn_volume.specs.Begins.{IsUntouched}
use Rattle.dn_volume.specs.Events.{Counts, Moves, MovesOn, Breaks}
use Rattle.dn_volume.specs.Kept.{SameButRoom, OfInodes, IsSameInode}
use Rattle.dn_volume.specs.Works.{Works, Stand, ReleaseWorks, ReleaseLowers, release_stand, used_pages}
use Rattle.dn_volume.specs.declared.volume.InodeState.{InodeState}
use Rattle.dn_volume.proofs.SameRoom.{inodes_same, room_joins}
use Rattle.reclaim.specs.RoomMade.{MakesRoom}
use Rattle.reclaim.proofs.Roomy.{leaves_since, rose_since, room_volume}

module _ {D F : Type 0} (state : D → State) (w w1 : Volume D F) (made : MakesRoom state w w1) where
  pub room_is : Agree (state w.device).now (state w.device).past → (d : Disk) → IsVolume d w.parts (state w.device)
      → IsVolume d w1.parts (state w1.device)
  room_is agree d v = room_volume d w.parts w1.parts (state w.device) (state w1.device) v made.same agree made.parts made.trace made.len made.capacity
      made.releases made.releases_len made.releases_capacity made.spare

  same_part : {X : Type 0} (f : Parts → X)
      → f (record w.parts { trace = w1.parts.trace; reclaiming = record w.parts.reclaiming { releases = w1.parts.reclaiming.releases } }) ≡ f w.parts
      → f w1.parts ≡ f w.parts
  same_part f same = ap f made.parts ∙ same

  same_room : SameButRoom w.parts w1.parts
  same_room = record {
    work = record {
      geometry = same_part (λ p. p.geometry) refl;
      names = same_part (λ p. p.names.map) refl;
      fact = same_part (λ p. p.fact) refl;
      queue = same_part (λ p. p.queue.items) refl;
      sharing = same_part (λ p. p.sharing) refl;
      zero_check = same_part (λ p. p.reclaiming.zero_check) refl;
      raised = same_part (λ p. p.reclaiming.raised) refl;
      releases = made.releases;
      waiting = same_part (λ p. p.reclaiming.waiting) refl;
      cleaning = same_part (λ p. p.reclaiming.cleaning) refl;
      trace = made.trace;
      stopped = same_part (λ p. p.stopped) refl;
    };
    free = same_part (λ p. p.free) refl;
    inodes = subst (λ (ns : List InodeState). OfInodes IsSameInode w.parts.inodes.items ns) (sym (same_part (λ p. p.inodes.items) refl))
        (inodes_same w.parts.inodes.items);
    flights = same_part (λ p. p.flights.items) refl;
  }

  pub room_untouched : Agree (state w.device).now (state w.device).past → (d : Disk) → IsVolume d w.parts (state w.device) → IsUntouched state w w1 d
  room_untouched agree d v = record {
    volume = room_is agree d v;
    device = made.same;
    same = same_room;
    history = same_part (λ p. p.history.items) refl;
    made = same_part (λ p. p.made) refl;
  }

  module _ (w2 : Volume D F) (print : Print) (who : ℕ) (d : Disk) where
    counts_since : Counts w1.parts w2.parts → Counts w.parts w2.parts
    counts_since = subst (λ (n : ℕ). (w2.parts.made ≡ n + 1) ⊎ ((n ≡ 18446744073709551615) × (w2.parts.made ≡ n))) (same_part (λ p. p.made) refl)

    others_since : SameOthers who w1.parts w2.parts → SameOthers who w.parts w2.parts
    others_since is = record {
      flights = λ q some ne. is.flights q some ne ∙ same_part (λ p. flight_at p.flights.items (q - 1)) refl;
      sharing = λ ne. is.sharing ne ∙ same_part (λ p. p.sharing) refl;
      cleaning = λ ne. is.cleaning ne ∙ same_part (λ p. p.reclaiming.cleaning) refl;
    }

    ops_since : KeepsOps w1.parts w2.parts → KeepsOps w.parts w2.parts
    ops_since is = record {
      kept = λ q f flies. is.kept q f (record { client = flies.client; is = same_part (λ p. flight_at p.flights.items (q - 1)) refl ∙ flies.is });
      only = λ q f flies. let was = is.only q f flies in
          (was.0, record { client = was.1.client; is = sym (same_part (λ p. flight_at p.flights.items (q - 1)) refl) ∙ was.1.is }, was.2);
    }

    faults_since : (n : ℕ) → (state w1.device).faults ≤ n → (state w.device).faults ≤ n
    faults_since n = subst (λ (k : ℕ). k ≤ n) made.same.faults

    moves_since : (e : Disk) → Moves state print who w1 w2 d e → Moves state print who w w2 d e
    moves_since e is = record {
      volume = is.volume;
      images = leaves_since (state w.device) (state w1.device) made.same (state w2.device) _ is.images;
      own = is.own;
      accounts = is.accounts;
      alone = is.alone;
      traces = record {
        more = is.traces.more;
        trace = is.traces.trace ∙ ap (λ (xs : List CountChange). xs ++ is.traces.more) made.trace;
        words = is.traces.words;
      };
      others = others_since is.others;
      counts = counts_since is.counts;
      geometry = is.geometry ∙ same_part (λ p. p.geometry) refl;
      faults = faults_since _ is.faults;
    }

    pub moves_on_since : MovesOn state print who w1 w2 d → MovesOn state print who w w2 d
    moves_on_since is = record {
      after = is.after;
      moves = moves_since is.after is.moves;
      quiet = is.quiet;
      ops = ops_since is.ops;
      history = is.history ∙ same_part (λ p. p.history.items) refl;
    }

    pub breaks_since : (answers : Option Op) → Breaks state print who answers w1 w2 d → Breaks state print who answers w w2 d
    breaks_since answers is = record {
      stopped = is.stopped;
      after = is.after;
      images = leaves_since (state w.device) (state w1.device) made.same (state w2.device) _ is.images;
      rose = rose_since (state w.device) (state w1.device) made.same _ is.rose;
      quiet = is.quiet;
      ops = ops_since is.ops;
      answering = is.answering;
      answered = is.answered;
      history = is.history ∙ same_part (λ p. p.history.items) refl;
      others = others_since is.others;
      trace = record { more = is.trace.more; trace = is.trace.trace ∙ ap (λ (xs : List CountChange). xs ++ is.trace.more) made.trace };
      geometry = is.geometry ∙ same_part (λ p. p.geometry) refl;
      counts = counts_since is.counts;
      faults = faults_since _ is.faults;
    }

    untouched_since : IsUntouched state w1 w2 d → IsUntouched state w w2 d
    untouched_since is = record {
      volume = is.volume;
      device = record { now = is.device.now ∙ made.same.now; past = is.device.past ∙ made.same.past; faults = is.device.faults ∙ made.same.faults };
      same = room_joins w.parts w1.parts w2.parts same_room is.same;
      history = is.history ∙ same_part (λ p. p.history.items) refl;
      made = is.made ∙ same_part (λ p. p.made) refl;
    }

    -- a work's event, where its stand is the same
    works_since : (stand : Stand) (lowers : Parts → Parts → ℕ → Type 0) → ((n : ℕ) → lowers w1.parts w2.parts n → lowers w.parts w2.parts n)
        → (outcome : Outcome) → Works state print who stand lowers w1 w2 d outcome → Works state print who stand lowers w w2 d outcome
    works_since stand lowers on (Running n) is = (moves_on_since is.0, is.1, on n is.2)
    works_since stand lowers on (Done reply) is = absurd is
    works_since stand lowers on (Busy holder) is = (untouched_since is.0, is.1)
    works_since stand lowers on (Released waiting) is = absurd is
    works_since stand lowers on Idle is = (untouched_since is.0, is.1)
    works_since stand lowers on NotYours is = absurd is
    works_since stand lowers on NoMemory is = (untouched_since is.0, is.1, is.2)
    works_since stand lowers on Stopped is = (breaks_since None is.0, is.1)

  pub reclaim_since : (w2 : Volume D F) (print : Print) (d : Disk) (outcome : Outcome) → ReleaseWorks state print w1 w2 d outcome
      → ReleaseWorks state print w w2 d outcome
  reclaim_since w2 print d outcome is =
      works_since w2 print 16 d (release_stand w.parts) ReleaseLowers
      (λ n less. record {
        left_is = less.left_is;
        less = subst (λ (k : ℕ). w2.parts.reclaiming.waiting < k) (same_part (λ p. p.reclaiming.waiting) refl) less.less;
        cleaning = less.cleaning ∙ same_part (λ p. p.reclaiming.cleaning) refl;
        sharing = less.sharing ∙ same_part (λ p. p.sharing) refl;
        queue = less.queue ∙ same_part (λ p. p.queue.items) refl;
        pages = subst (λ (k : ℕ). used_pages w2.parts ≤ k) (same_part (λ p. used_pages p) refl) less.pages;
      }) outcome
      (subst (λ (p : Parts). Works state print 16 (release_stand p) ReleaseLowers w1 w2 d outcome) made.parts is)

  pub room_agrees : Agree (state w.device).now (state w.device).past → (d : Disk) → IsVolume d w.parts (state w.device) → Agrees state w1
  room_agrees agree d v = agrees_with d (room_is agree d v)
