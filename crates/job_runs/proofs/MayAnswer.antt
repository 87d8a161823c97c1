-- The next event of a run may answer what it answers, and the run goes on from there.
use Rattle.std.proofs.Common.{◌≡◌, ◌≢◌, ℕ, ◌+◌, ◌-◌, ◌*◌, ◌<◌, ◌≤◌, Bool, true, false}
use Rattle.std.proofs.Common.{List, [], ◌∷◌, ◌++◌, refl, sym, ap, subst, ◌∙◌, arith, append-nil}
use Rattle.std.specs.Prelude.{Option, Some, None, IsSome, Contains, if◌then◌else◌, nat_lt}
use Rattle.std.proofs.lemmas.Option.{none-some, same_Some}
use Rattle.std.proofs.lemmas.List.Elements.{Contains-append_right}
use Rattle.pm_device.specs.State.{State, Rose}
use Rattle.law_unique.proofs.Listings.{here}
use Rattle.dn_model.specs.Disk.{Disk}
use Rattle.dn_model.specs.Files.{files}
use Rattle.dn_model.specs.Apply.{Replies, miss, grants, bad_name, missed, too_long, too_big}
use Rattle.dn_model.specs.Own.{Print}
use Rattle.dn_model.specs.declared.op.Op.{Op}
use Rattle.dn_model.specs.declared.op.Reply.{Reply}
use Rattle.dn_model.specs.declared.op.Reply.TheVariants as answer
use Rattle.dn_model.specs.declared.op.Refusal.{Refusal}
use Rattle.dn_model.specs.declared.op.Refusal.TheVariants.{BadName, TooLong, TooBig}
use Rattle.dn_volume.specs.declared.background.Sharing.{Sharing}
use Rattle.dn_volume.specs.declared.background.Cleaning.{Cleaning}
use Rattle.dn_volume.specs.declared.flight.Flight.{Flight}
use Rattle.dn_volume.specs.declared.outcome.Outcome.{Outcome}
use Rattle.dn_volume.specs.declared.outcome.Outcome.TheVariants as told
use Rattle.dn_volume.specs.declared.volume.Parts.{Parts}
use Rattle.dn_volume.specs.declared.volume.Volume.{Volume}
use Rattle.dn_volume.specs.Parties.{Flies, Holds, by_client, by_daemon, by_cleaning, SameOthers, flight_at, flight_of}
use Rattle.dn_volume.proofs.Replaced.{flies_new, others_same as same_others}
use Rattle.dn_volume.specs.Flights.{left_of}
use Rattle.dn_volume.specs.Works.{sharing_events, step_events, cleaning_events, DaemonWorks, ReclaimWorks, IsHeldUp}
use Rattle.dn_volume.specs.Agrees.{IsVolume}
use Rattle.dn_volume.specs.Begins.{MayBegin, HasBegun, AnswersAtOnce, IsAnswerOf, of_files, no_inode, no_space, IsBusy, IsUntouched, wants}
use Rattle.dn_volume.specs.Events.{Advances, Breaks, answered_by}
use Rattle.dn_core.specs.declared.event.Event.{Event}
use Rattle.dn_core.specs.declared.event.Event.TheVariants.{Begin, Advance, Daemon, Reclaim}
use Rattle.dn_core.specs.Steps.{Steps, Opens, GoesOn, Releases}
use Rattle.job_runs.specs.declared.plan.Order.{Order}
use Rattle.job_runs.specs.Turns.{Played, Upcoming, after}
use Rattle.job_runs.specs.Plays.{HoldsAny, IsHolder, IsLess, MayLeave}
use Rattle.job_runs.specs.Scripts.{Rises}
use Rattle.job_runs.specs.Playing.{Fits, flight_left}
use Rattle.job_runs.specs.Answering.{GoesWell, BreaksOff, AnswersNext, EventsMayAnswer}
use Rattle.job_runs.proofs.Turned.{IsBeginTurn, IsAdvanceTurn, IsTurn, next_turn, client_of}
use Rattle.job_runs.proofs.BeginsLeft.{begin_leaves}
use Rattle.job_runs.proofs.BeginsHeld.{wanted_for, holds_any, begin_meets, once_holds}
use Rattle.job_runs.proofs.Fitting.{
  some_left,
  none_left,
  flight_there,
  at_client,
  flies_by,
  flight_is,
  client_few,
  others_same,
  all_same,
  was_flying,
  left_at,
  next_at,
  clients_set,
  clients_kept,
  daemon_kept,
  daemon_set,
  fly_ops,
  fly_same,
  fly_begun,
  fly_answered,
  entries_answered,
  cleaning_kept,
  cleaning_set,
}

-- what is answered in a begin
once_done : (d : Disk) (b : Parts) (op : Op) (reply : Reply) → IsAnswerOf d b op reply → HoldsAny (files d) op → reply ≢ answer.Done
once_done d b op reply (of_files r replies once) any is = by replies
  where
    refused : (why : Refusal) → reply ≡ answer.Refused why → ⊥
    refused why said = let e : answer.Refused why ≡ answer.Done = sym said ∙ is in cc

    by : Replies (files d) op reply → ⊥
    by (grants legal finds short fits said) =
        once_holds (files d) op (once (record { legal = legal; finds = finds; short = short; fits = fits })) any
    by (bad_name why said) = refused BadName said
    by (missed legal why said) = refused (miss op) said
    by (too_long legal finds why said) = refused TooLong said
    by (too_big legal finds short why said) = refused TooBig said
once_done d b op reply (no_inode free none lacks) any is = cc
once_done d b op reply (no_space free none inode lacks) any is = cc

less_waits : (released : Option ℕ) (before now : ℕ) → ((n : ℕ) → released ≡ Some n → before ≡ n) → now < before → IsLess released now
less_waits None before now was less = tt
less_waits (Some n) before now was less = let same = was n refl in omega (arith, same, less)

events_some : (s : Sharing) → 0 < sharing_events (Some s)
events_some s = by (nat_lt s.done s.count)
  where
    by : (t : Bool) → 0 < (if t then 3 * (s.count - s.done - 1) + step_events s.step + 1 else 1)
    by true = omega arith
    by false = omega arith

fifteen : ◌≡◌ {A = ℕ} 15 16 → ⊥
fifteen e = omega (arith, e)

some_is : (x : Option Cleaning) (c : Cleaning) → x ≡ Some c → IsSome x
some_is None c e = cc
some_is (Some y) c e = refl

no_cleaning : (c : Option Cleaning) → c ≡ None → IsSome c → ⊥
no_cleaning None is some = cc
no_cleaning (Some x) is some = cc

events_of : (c : Option Cleaning) → IsSome c → 0 < cleaning_events c
events_of None some = cc
events_of (Some c) some = omega arith

clash_none : (o : Option Flight) (f : Flight) → o ≡ None → o ≡ Some f → ⊥
clash_none o f none some = cc

module _ {D F : Type 0} (state : D → State) (print : Print) (order : Order) (scripts : List (ℕ × List Op)) (p : Played) (v v' : Volume D F) (d : Disk)
    (fits : Fits scripts p v.parts) (volume : IsVolume d v.parts (state v.device)) where
  same_entries : v'.parts.history.items ≡ v.parts.history.items → p.entries ++ [] ≡ v'.parts.history.items
  same_entries history = append-nil p.entries ∙ fits.entries ∙ sym history

  none_released : (n : ℕ) → None ≡ Some n → v'.parts.reclaiming.waiting + cleaning_events v'.parts.reclaiming.cleaning ≡ n
  none_released n e = absurd (none-some n e)

  -- nothing of it was done
  busy_fits : (next : Upcoming) (who holder : ℕ) → IsUntouched state v v' d
      → Fits scripts (after order scripts p next who (told.Busy holder)) v'.parts
  busy_fits next who holder is = record {
    entries = same_entries is.history;
    clients = clients_kept scripts p v.parts fits v'.parts (λ q ne. all_same v.parts v'.parts is.same.flights q);
    daemon = daemon_kept scripts p v.parts fits v'.parts is.same.work.sharing;
    waiting = none_released;
    cleaning = cleaning_kept scripts p v.parts fits v'.parts is.same.work.cleaning;
    flying = fly_same scripts p v.parts fits v'.parts is.history is.same.flights;
  }

  untouched_off : IsUntouched state v v' d → BreaksOff state scripts v v'
  untouched_off is = record {
    history = is.history;
    flying = fly_same scripts p v.parts fits v'.parts is.history is.same.flights;
    faults = let same = is.device.faults in omega (arith, same);
  }

  breaks_off : (who : ℕ) (answers : Option Op) → Breaks state print who answers v v' d
      → BreaksOff state scripts v v' × Rose (state v.device).faults (state v'.device).faults
  breaks_off who answers is = (
    record { history = is.history; flying = fly_ops scripts p v.parts fits v'.parts is.history is.ops; faults = is.faults },
    is.rose,
  )

  -- who has an operation in flight is a client, and has an event left
  flies_left : (who : ℕ) (f : Flight) → Flies v.parts who f → (who ≤ 14) × (0 < p.left who)
  flies_left who f flies =
      let few = client_few v.parts who f volume.flights.clients flies in
      let left = left_at scripts p v.parts fits who f (λ e. omega (arith, few, e)) (λ e. omega (arith, few, e)) flies in
      let some = some_left f in
      (few, omega (arith, left, some))

  held_by : (op : Op) (holder ino : ℕ) → Contains (wants d op) ino → Holds v.parts holder ino → IsHolder scripts p (files d) op holder
  held_by op holder ino wanted (by_client f flies has) =
      IsHolder.client f.op (flies_left holder f flies).1 (next_at scripts p v.parts fits holder f flies)
      (begin_meets d volume.fast.valid op ino wanted f holder (state v.device) (volume.flights.each holder f flies) has)
  held_by op holder ino wanted (by_cleaning cleaning is begun at) =
      IsHolder.reclaim is (fits.cleaning (some_is v.parts.reclaiming.cleaning cleaning begun)) (holds_any d op ino (wanted_for d op ino wanted))
  held_by op holder ino wanted (by_daemon sharing is begun at) =
      let left : p.left 15 ≡ sharing_events (Some sharing) = fits.daemon ∙ ap sharing_events begun in
      let some = events_some sharing in
      IsHolder.daemon is (omega (arith, left, some)) (holds_any d op ino (wanted_for d op ino wanted))

  busy_by : (op : Op) (holder : ℕ) → IsBusy d v.parts op holder → IsHolder scripts p (files d) op holder
  busy_by op holder is = held_by op holder is.held.ino (subst (λ (xs : List ℕ). Contains xs is.held.ino) (sym is.held.split)
      (Contains-append_right is.held.before (is.held.ino ∷ is.held.after) is.held.ino (here is.held.ino is.held.after))) is.held.holds

  -- a begin
  module _ (who : ℕ) (op : Op) (due : List ℕ) (idle : Bool) (turn : IsBeginTurn scripts p who op) (some : 1 ≤ who) where
    abbrev begun : Upcoming
    begun = record { event = Begin who op; due = due; idle = idle }

    no_flight : flight_of v.parts who ≡ None
    no_flight = none_left (flight_of v.parts who) (sym (fits.clients who turn.no_daemon turn.no_reclaim) ∙ turn.none_left)

    may_begin : who ≤ 14 → MayBegin v.parts who
    may_begin few = record { some = some; few = few; idle = sym (at_client v.parts who some) ∙ no_flight }

    flies_begun : (left : ℕ) (is : HasBegun state who op left v v' d) → Flies v'.parts who is.flight
    flies_begun left is = flies_new who is.opens.client None (Some is.flight) v.parts v'.parts is.opens.replaces is.flight refl

    others_begun : (left : ℕ) (is : HasBegun state who op left v v' d) → SameOthers who v.parts v'.parts
    others_begun left is = same_others who is.opens.client None (Some is.flight) v.parts v'.parts is.opens.replaces

    runs_well : (left : ℕ) → HasBegun state who op left v v' d → GoesWell state order scripts p begun v v' d (told.Running left)
    runs_well left is = record {
      may = record {
        disk = d;
        valid = volume.fast.valid;
        same = λ name. refl;
        may = subst (λ (o : Op). MayLeave d o left) is.opens.op_is (subst (MayLeave d is.flight.op) (sym is.opens.left_is)
            (begin_leaves d is.flight is.opens.unraised who (state v'.device) (is.volume.flights.each who is.flight (flies_begun left is)) is.opens.fresh));
      };
      fits = record {
        entries = same_entries is.history;
        clients = clients_set scripts p v.parts fits v'.parts who left
            (λ a c. is.opens.left_is ∙ ap flight_left (sym (flight_is v'.parts who is.flight (flies_begun left is))))
            (others_same who v.parts v'.parts (others_begun left is));
        daemon = daemon_set scripts p v.parts fits v'.parts who left turn.no_daemon is.opens.same.work.sharing;
        waiting = none_released;
        cleaning = cleaning_set scripts p v.parts fits v'.parts who left turn.no_reclaim is.opens.same.work.cleaning;
        flying = fly_begun scripts p v.parts fits v'.parts who op is.flight is.history (flies_begun left is) is.opens.op_is turn.next (others_begun left is);
      };
      running = is.volume.running;
      faults = let same = is.device.faults in omega (arith, same);
    }

    replies_well : (reply : Reply) → AnswersAtOnce state who op reply v v' d → GoesWell state order scripts p begun v v' d (told.Done reply)
    replies_well reply is = record {
      may = once_done d v.parts op reply is.why;
      fits = record {
        entries = entries_answered scripts p v.parts fits v'.parts who op reply is.entry is.history is.who_is is.op_is is.reply_is turn.next;
        clients = clients_set scripts p v.parts fits v'.parts who 0
            (λ a c. sym (ap flight_left (all_same v.parts v'.parts is.same.flights who ∙ no_flight)))
            (λ q ne. all_same v.parts v'.parts is.same.flights q);
        daemon = daemon_set scripts p v.parts fits v'.parts who 0 turn.no_daemon is.same.work.sharing;
        waiting = none_released;
        cleaning = cleaning_set scripts p v.parts fits v'.parts who 0 turn.no_reclaim is.same.work.cleaning;
        flying = fly_answered scripts p v.parts fits v'.parts who is.entry is.history is.who_is others;
      };
      running = is.volume.running;
      faults = let same = is.device.faults in omega (arith, same);
    }
      where
        others : (q : ℕ) (f : Flight) → Flies v'.parts q f → (q ≢ who) × Flies v.parts q f
        others q f flies =
            let was = was_flying v.parts v'.parts is.same.flights q f flies in
            (λ e. clash_none (flight_of v.parts who) f no_flight (ap (flight_of v.parts) (sym e) ∙ flight_is v.parts q f was), was)

    releases_well : (left : ℕ) → Releases state print op left v v' d → GoesWell state order scripts p begun v v' d (told.Released left)
    releases_well left is = record {
      may = less_waits p.released (v.parts.reclaiming.waiting + cleaning_events v.parts.reclaiming.cleaning) left fits.waiting
          (let now = is.lowers.left_is in let less = is.lowers.less in let same = ap cleaning_events is.lowers.cleaning in
          omega (arith, now, less, same));
      fits = record {
        entries = same_entries is.moves.history;
        clients = clients_kept scripts p v.parts fits v'.parts (others_same 16 v.parts v'.parts is.moves.moves.others);
        daemon = daemon_kept scripts p v.parts fits v'.parts is.lowers.sharing;
        waiting = λ n e. sym is.lowers.left_is ∙ same_Some left n e;
        cleaning = cleaning_kept scripts p v.parts fits v'.parts is.lowers.cleaning;
        flying = fly_ops scripts p v.parts fits v'.parts is.moves.history is.moves.ops;
      };
      running = is.moves.moves.volume.running;
      faults = is.moves.moves.faults;
    }

    begin_answers : (outcome : Outcome) → Opens state print who op v v' d outcome → AnswersNext state order scripts p begun v v' d outcome
    begin_answers (told.Running left) is = runs_well left is
    begin_answers (told.Done reply) is = replies_well reply is
    begin_answers (told.Busy holder) is = record {
      may = busy_by op holder is.1;
      fits = busy_fits begun who holder is.0;
      running = is.0.volume.running;
      faults = let same = is.0.device.faults in omega (arith, same);
    }
    begin_answers (told.Released left) is = releases_well left is
    begin_answers told.Idle is = absurd is
    begin_answers told.NotYours is = is
    begin_answers told.NoMemory is = untouched_off is.0
    begin_answers told.Stopped is = breaks_off 16 None is.breaks

  -- an advance
  module _ (who : ℕ) (due : List ℕ) (idle : Bool) (turn : IsAdvanceTurn p who) where
    abbrev further : Upcoming
    further = record { event = Advance who; due = due; idle = idle }

    in_flight : (f : Flight) × (flight_of v.parts who ≡ Some f)
    in_flight = flight_there (flight_of v.parts who)
        (subst (λ (n : ℕ). 0 < n) (fits.clients who turn.no_daemon turn.no_reclaim) turn.some_left)

    advance_answers : (outcome : Outcome) (f : Flight) → Flies v.parts who f → Advances state print who f.op (left_of f) v v' d outcome
        → AnswersNext state order scripts p further v v' d outcome
    advance_answers (told.Running left) f flies is = record {
      may = (left_at scripts p v.parts fits who f turn.no_daemon turn.no_reclaim flies ∙ is.2, is.3);
      fits = record {
        entries = same_entries is.0.history;
        clients = clients_set scripts p v.parts fits v'.parts who left
            (λ a c. is.1.left_is ∙ ap flight_left (sym (flight_is v'.parts who is.1.flight is.1.flies)))
            (others_same who v.parts v'.parts is.0.moves.others);
        daemon = daemon_set scripts p v.parts fits v'.parts who left turn.no_daemon (is.0.moves.others.sharing turn.no_daemon);
        waiting = none_released;
        cleaning = cleaning_set scripts p v.parts fits v'.parts who left turn.no_reclaim (is.0.moves.others.cleaning turn.no_reclaim);
        flying = fly_ops scripts p v.parts fits v'.parts is.0.history is.0.ops;
      };
      running = is.0.moves.volume.running;
      faults = is.0.moves.faults;
    }
    advance_answers (told.Done reply) f flies is = record {
      may = left_at scripts p v.parts fits who f turn.no_daemon turn.no_reclaim flies ∙ is.1;
      fits = record {
        entries = entries_answered scripts p v.parts fits v'.parts who f.op reply is.0.entry is.0.history is.0.who_is is.0.op_is is.0.reply_is
            (next_at scripts p v.parts fits who f flies);
        clients = clients_set scripts p v.parts fits v'.parts who 0
            (λ a c. sym (ap flight_left (at_client v'.parts who flies.client ∙ is.0.replaces.now)))
            (others_same who v.parts v'.parts is.0.moves.others);
        daemon = daemon_set scripts p v.parts fits v'.parts who 0 turn.no_daemon (is.0.moves.others.sharing turn.no_daemon);
        waiting = none_released;
        cleaning = cleaning_set scripts p v.parts fits v'.parts who 0 turn.no_reclaim (is.0.moves.others.cleaning turn.no_reclaim);
        flying = fly_answered scripts p v.parts fits v'.parts who is.0.entry is.0.history is.0.who_is others;
      };
      running = is.0.moves.volume.running;
      faults = is.0.moves.faults;
    }
      where
        others : (q : ℕ) (g : Flight) → Flies v'.parts q g → (q ≢ who) × Flies v.parts q g
        others q g now =
            let ne : q ≢ who = λ e. clash_none (flight_at v'.parts.flights.items (who - 1)) g is.0.replaces.now
            (subst (λ (n : ℕ). flight_at v'.parts.flights.items (n - 1) ≡ Some g) e now.is) in
            (ne, record { client = now.client; is = sym (is.0.moves.others.flights q now.client ne) ∙ now.is })
    advance_answers (told.Busy holder) f flies is = absurd is
    advance_answers (told.Released waiting) f flies is = absurd is
    advance_answers told.Idle f flies is = absurd is
    advance_answers told.NotYours f flies is = is
    advance_answers told.NoMemory f flies is = absurd is
    advance_answers told.Stopped f flies is = breaks_off who (answered_by (left_of f) f.op) is

  -- the daemon and reclaim
  module _ (due : List ℕ) (idle : Bool) where
    abbrev shares : Upcoming
    shares = record { event = Daemon; due = due; idle = idle }

    abbrev reclaims : Upcoming
    reclaims = record { event = Reclaim; due = due; idle = idle }

    held_up : (holder : ℕ) → IsHeldUp d v.parts holder → (0 < p.left holder) × (holder ≢ 15)
    held_up holder is = by is.holds
      where
        by : Holds v.parts holder is.work.ino → (0 < p.left holder) × (holder ≢ 15)
        by (by_client f flies has) =
            let left = flies_left holder f flies in
            let few = left.0 in
            (left.1, λ e. omega (arith, few, e))
        by (by_daemon sharing at begun by_it) = absurd (none-some sharing (sym is.none_begun ∙ begun))
        by (by_cleaning cleaning at begun by_it) =
            let some = fits.cleaning (some_is v.parts.reclaiming.cleaning cleaning begun) in
            (subst (λ (k : ℕ). 0 < p.left k) (sym at) some, λ e. omega (arith, at, e))

    daemon_answers : (outcome : Outcome) → DaemonWorks state print v v' d outcome → AnswersNext state order scripts p shares v v' d outcome
    daemon_answers (told.Running left) is = record {
      may = tt;
      fits = record {
        entries = same_entries is.0.history;
        clients = clients_set scripts p v.parts fits v'.parts 15 left (λ a c. absurd (a refl)) (others_same 15 v.parts v'.parts is.0.moves.others);
        daemon = is.2.left_is;
        waiting = none_released;
        cleaning = cleaning_set scripts p v.parts fits v'.parts 15 left fifteen (is.0.moves.others.cleaning fifteen);
        flying = fly_ops scripts p v.parts fits v'.parts is.0.history is.0.ops;
      };
      running = is.0.moves.volume.running;
      faults = is.0.moves.faults;
    }
    daemon_answers (told.Done reply) is = absurd is
    daemon_answers (told.Busy holder) is = record {
      may = held_up holder is.1;
      fits = busy_fits shares 15 holder is.0;
      running = is.0.volume.running;
      faults = let same = is.0.device.faults in omega (arith, same);
    }
    daemon_answers (told.Released waiting) is = absurd is
    daemon_answers told.Idle is = record {
      may = tt;
      fits = record {
        entries = same_entries is.0.history;
        clients = clients_set scripts p v.parts fits v'.parts 15 0 (λ a c. absurd (a refl)) (λ q ne. all_same v.parts v'.parts is.0.same.flights q);
        daemon = sym (ap sharing_events (is.0.same.work.sharing ∙ is.1.none_begun));
        waiting = none_released;
        cleaning = cleaning_set scripts p v.parts fits v'.parts 15 0 fifteen is.0.same.work.cleaning;
        flying = fly_same scripts p v.parts fits v'.parts is.0.history is.0.same.flights;
      };
      running = is.0.volume.running;
      faults = let same = is.0.device.faults in omega (arith, same);
    }
    daemon_answers told.NotYours is = is
    daemon_answers told.NoMemory is = untouched_off is.0
    daemon_answers told.Stopped is = breaks_off 15 None is.0

    reclaim_answers : (outcome : Outcome) → ReclaimWorks state print v v' d outcome → AnswersNext state order scripts p reclaims v v' d outcome
    reclaim_answers (told.Running left) is = record {
      may = tt;
      fits = record {
        entries = same_entries is.0.history;
        clients = clients_set scripts p v.parts fits v'.parts 16 left (λ a c. absurd (c refl)) (others_same 16 v.parts v'.parts is.0.moves.others);
        daemon = daemon_kept scripts p v.parts fits v'.parts is.2.sharing;
        waiting = none_released;
        cleaning = λ some. let events = events_of v'.parts.reclaiming.cleaning some in let all = is.2.left_is in omega (arith, events, all);
        flying = fly_ops scripts p v.parts fits v'.parts is.0.history is.0.ops;
      };
      running = is.0.moves.volume.running;
      faults = is.0.moves.faults;
    }
    reclaim_answers (told.Done reply) is = absurd is
    reclaim_answers (told.Busy holder) is = absurd is.1
    reclaim_answers (told.Released waiting) is = absurd is
    reclaim_answers told.Idle is = record {
      may = tt;
      fits = record {
        entries = same_entries is.0.history;
        clients = clients_set scripts p v.parts fits v'.parts 16 0 (λ a c. absurd (c refl)) (λ q ne. all_same v.parts v'.parts is.0.same.flights q);
        daemon = daemon_kept scripts p v.parts fits v'.parts is.0.same.work.sharing;
        waiting = none_released;
        cleaning = λ some. absurd (no_cleaning v'.parts.reclaiming.cleaning (is.0.same.work.cleaning ∙ is.1.none_begun) some);
        flying = fly_same scripts p v.parts fits v'.parts is.0.history is.0.same.flights;
      };
      running = is.0.volume.running;
      faults = let same = is.0.device.faults in omega (arith, same);
    }
    reclaim_answers told.NotYours is = is
    reclaim_answers told.NoMemory is = untouched_off is.0
    reclaim_answers told.Stopped is = breaks_off 16 None is.0

  answers_by : (event : Event) (due : List ℕ) (idle : Bool) (outcome : Outcome) → Rises 0 scripts → IsTurn scripts p event
      → Steps state print event v v' outcome
      → AnswersNext state order scripts p (record { event = event; due = due; idle = idle }) v v' d outcome
  answers_by (Begin who op) due idle outcome rises turn steps =
      let is_client = client_of scripts p.entries who op rises turn.next in
      begin_answers who op due idle turn is_client.0 outcome
      (steps.serves d volume (λ not. not (may_begin who op due idle turn is_client.0 is_client.1))).1
  answers_by (Advance who) due idle outcome rises turn steps =
      let flown = in_flight who due idle turn in
      let on : GoesOn state print who v v' d outcome = steps.serves d volume (λ not. not flown.0 (flies_by v.parts who flown.0 flown.1)) in
      advance_answers who due idle turn outcome on.flight on.flies on.advances
  answers_by Daemon due idle outcome rises turn steps = daemon_answers due idle outcome (steps.serves d volume (λ never. never))
  answers_by Reclaim due idle outcome rises turn steps = reclaim_answers due idle outcome (steps.serves d volume (λ never. never))

pub events_may_answer : {D F : Type 0} (state : D → State) → EventsMayAnswer D F state
events_may_answer state print order scripts p next v v' d outcome rises is_next fits volume steps =
    answers_by state print order scripts p v v' d fits volume next.event next.due next.idle outcome rises
    (next_turn scripts p order next is_next) steps
