-- What an event of the daemon or of reclaim does while no operation is in flight.
use Rattle.std.proofs.Common.{◌≡◌, inl, inr, ⊎_elim, ℕ, ◌-◌, ◌≤◌, Bool, true, false, List, length, refl, sym, ◌∙◌, ap, subst, arith}
use Rattle.std.specs.Prelude.{Option, Some, None, Ok, Err, IsSome}
use Rattle.pm_device.specs.State.{State}
use Rattle.dn_model.specs.Disk.{Disk}
use Rattle.dn_model.specs.Own.{Print}
use Rattle.dn_volume.specs.declared.background.Sharing.{Sharing}
use Rattle.dn_volume.specs.declared.outcome.Outcome.{Outcome}
use Rattle.dn_volume.specs.declared.outcome.Outcome.TheVariants as told
use Rattle.dn_volume.specs.declared.flight.Flight.{Flight}
use Rattle.dn_volume.specs.declared.volume.Parts.{Parts}
use Rattle.dn_volume.specs.declared.volume.Volume.{Volume}
use Rattle.dn_volume.specs.Parties.{Holds, by_client, by_daemon, by_cleaning, KeepsOps, flight_at}
use Rattle.dn_volume.specs.Agrees.{Agrees, agrees_with, is_stopped}
use Rattle.dn_volume.specs.Begins.{IsUntouched}
use Rattle.dn_volume.specs.Events.{MovesOn}
use Rattle.dn_volume.specs.declared.background.Cleaning.{Cleaning}
use Rattle.dn_volume.specs.Works.{Works, Stand, MayWork, daemon_stand, DaemonLowers, reclaim_stand, ReclaimLowers, IsHeldUp, clean_work}
use Rattle.dn_core.specs.declared.event.Event.{Event}
use Rattle.dn_core.specs.declared.event.Event.TheVariants.{Begin, Advance, Daemon, Reclaim}
use Rattle.dn_core.specs.declared.event.DrainFault.TheVariants as fault
use Rattle.dn_core.specs.Steps.{Steps, Serves, IsNotYours}
use Rattle.dn_volume.specs.Resting.{AllLanded}
use Rattle.dn_core.specs.Rest.{KeepsCounts, IsWork, Rests}
use Rattle.dn_core.specs.Working.{SameTasks, GetsOn, WorksOnce}
use Rattle.dn_core.proofs.Cleaned.{none_may_same, work_same}

-- it is the actor's own
is_yours : (b : Parts) (event : Event) → IsWork event → IsNotYours b event → ⊥
is_yours b (Begin who op) work not = work
is_yours b (Advance who) work not = work
is_yours b Daemon work not = not
is_yours b Reclaim work not = not

same_tasks : {D F : Type 0} (state : D → State) (v v' : Volume D F) (d : Disk) → IsUntouched state v v' d → SameTasks v.parts v'.parts
same_tasks state v v' d un = record {
  waiting = un.same.work.waiting;
  queue = un.same.work.queue;
  sharing = un.same.work.sharing;
  cleaning = un.same.work.cleaning;
  may = none_may_same v.parts v'.parts un.same;
  left = work_same v.parts v'.parts un.same;
  trace = un.same.work.trace;
}

same_counts : (b b' : Parts) → SameTasks b b' → KeepsCounts b b'
same_counts b b' same rests = (
  record {
    daemon = record { none_begun = same.sharing ∙ rests.daemon.none_begun; none_waits = same.queue ∙ rests.daemon.none_waits };
    none_waits = same.waiting ∙ rests.none_waits;
  },
  same.trace,
)

kept_landed : (b b' : Parts) → KeepsOps b b' → AllLanded b → AllLanded b'
kept_landed b b' ops landed who f flies = let was = ops.only who f flies in landed who was.0 was.1

same_landed : (b b' : Parts) → b'.flights.items ≡ b.flights.items → AllLanded b → AllLanded b'
same_landed b b' same landed who f flies = landed who f (record {
  client = flies.client;
  is = ap (λ (fs : List (Option Flight)). flight_at fs (who - 1)) (sym same) ∙ flies.is;
})

clash : (x : Bool) → x ≡ false → x ≡ true → ⊥
clash x low high = cc

-- what each answer of a background actor's event says here
module _ {D F : Type 0} (state : D → State) (print : Print) (event : Event) (v v' : Volume D F) (landed : AllLanded v.parts) (d : Disk)
    (who : ℕ) (stand : Stand) (lowers : Parts → Parts → ℕ → Type 0)
    (rests : stand.rests → Rests event v.parts) (working : Rests event v.parts → stand.rests)
    (gets : (n : ℕ) → MovesOn state print who v v' d → lowers v.parts v'.parts n → GetsOn event v.parts v'.parts)
    (counts : (n : ℕ) → MayWork stand → lowers v.parts v'.parts n → KeepsCounts v.parts v'.parts) where
  abbrev Is : Outcome → Type 0
  Is outcome = Works state print who stand lowers v v' d outcome

  on_idle : Steps state print event v v' told.Idle → Is told.Idle → WorksOnce state print event v v' (Ok true)
  on_idle steps is = record {
    outcome = told.Idle;
    steps = steps;
    landed = same_landed v.parts v'.parts is.0.same.flights landed;
    history = is.0.history;
    faults = let same = is.0.device.faults in omega (arith, same);
    ends = ((rests is.1, same_tasks state v v' d is.0), (d, is.0.volume), same_counts v.parts v'.parts (same_tasks state v v' d is.0));
  }

  on_running : (left : ℕ) → Steps state print event v v' (told.Running left) → Is (told.Running left) → WorksOnce state print event v v' (Ok false)
  on_running left steps is = record {
    outcome = told.Running left;
    steps = steps;
    landed = kept_landed v.parts v'.parts is.0.ops landed;
    history = is.0.history;
    faults = is.0.moves.faults;
    ends = ((λ at_rest. is.1.some (working at_rest), gets left is.0 is.2), (is.0.after, is.0.moves.volume), counts left is.1 is.2);
  }

  on_memory : Steps state print event v v' told.NoMemory → Is told.NoMemory → WorksOnce state print event v v' (Err fault.NoMemory)
  on_memory steps is = record {
    outcome = told.NoMemory;
    steps = steps;
    landed = same_landed v.parts v'.parts is.0.same.flights landed;
    history = is.0.history;
    faults = let same = is.0.device.faults in omega (arith, same);
    ends = same_tasks state v v' d is.0;
  }

  on_stopped : Steps state print event v v' told.Stopped → Is told.Stopped → WorksOnce state print event v v' (Err fault.Stopped)
  on_stopped steps is = record {
    outcome = told.Stopped;
    steps = steps;
    landed = kept_landed v.parts v'.parts is.0.ops landed;
    history = is.0.history;
    faults = is.0.faults;
    ends = inr (λ at_rest. is.1.some (working at_rest), is.0.rose);
  }

fifteen : ◌≡◌ {A = ℕ} 15 16 → ⊥
fifteen e = omega (arith, e)

daemon_gets : {D F : Type 0} (state : D → State) (print : Print) (v v' : Volume D F) (d : Disk) (n : ℕ) → MovesOn state print 15 v v' d
    → DaemonLowers v.parts v'.parts n → GetsOn Daemon v.parts v'.parts
daemon_gets state print v v' d n moves is =
    let less = is.less in
    let same = is.waiting in
    let pages = is.pages in
    let left : clean_work v'.parts.reclaiming.cleaning ≡ clean_work v.parts.reclaiming.cleaning =
    ap clean_work (moves.moves.others.cleaning fifteen) in
    inl (omega (arith, less, same, pages, left))

reclaim_gets : {D F : Type 0} (state : D → State) (print : Print) (v v' : Volume D F) (d : Disk) (n : ℕ) → MovesOn state print 16 v v' d
    → ReclaimLowers v.parts v'.parts n → GetsOn Reclaim v.parts v'.parts
reclaim_gets state print v v' d n moves is = is.less

daemon_counts : (d : Disk) (b b' : Parts) (n : ℕ) → MayWork (daemon_stand d b) → DaemonLowers b b' n → KeepsCounts b b'
daemon_counts d b b' n may is rests = absurd (may.some rests.daemon)

reclaim_counts : (b b' : Parts) (n : ℕ) → MayWork (reclaim_stand b) → ReclaimLowers b b' n → KeepsCounts b b'
reclaim_counts b b' n may is rests = (
  record {
    daemon = record { none_begun = is.sharing ∙ rests.daemon.none_begun; none_waits = is.rests rests.daemon };
    none_waits = ⊎_elim (λ less. absurd (let none = rests.none_waits in omega (arith, less, none))) (λ both. both.1) is.waiting;
  },
  is.trace rests.none_waits,
)

-- who holds the daemon up is a cleaning
held_by : (d : Disk) (b : Parts) → AllLanded b → (holder : ℕ) → IsHeldUp d b holder → IsSome b.reclaiming.cleaning
held_by d b landed holder is = by is.holds
  where
    no_item : (x : Sharing) → None ≡ Some x → ⊥
    no_item x e = cc

    some_is : (x : Option Cleaning) (c : Cleaning) → x ≡ Some c → IsSome x
    some_is None c e = cc
    some_is (Some y) c e = refl

    by : Holds b holder is.work.ino → IsSome b.reclaiming.cleaning
    by (by_client f flies has) = absurd (landed holder f flies)
    by (by_daemon sharing who some ino) = absurd (no_item sharing (sym is.none_begun ∙ some))
    by (by_cleaning cleaning who some ino) = some_is b.reclaiming.cleaning cleaning some

-- what stops a volume that was stopped is told
stopped_already : {D F : Type 0} (state : D → State) (print : Print) (event : Event) (v v' : Volume D F) → AllLanded v.parts
    → v.parts.stopped ≡ true → Steps state print event v v' told.Stopped → WorksOnce state print event v v' (Err fault.Stopped)
stopped_already state print event v v' landed is steps =
    let same = (steps.stopped is).1 in
    record {
      outcome = told.Stopped;
      steps = steps;
      landed = subst (λ (w : Volume _ _). AllLanded w.parts) (sym same) landed;
      history = ap (λ (w : Volume _ _). w.parts.history.items) same;
      faults = subst (λ (w : Volume _ _). (state v.device).faults ≤ (state w.device).faults) (sym same) (omega arith);
      ends = inl (is, same);
    }

module _ {D F : Type 0} (state : D → State) (print : Print) (v v' : Volume D F) (landed : AllLanded v.parts) where
  idle_by : (event : Event) → IsWork event → (d : Disk) → Steps state print event v v' told.Idle → Serves state print event v v' d told.Idle
      → WorksOnce state print event v v' (Ok true)
  idle_by (Begin who op) work d steps is = absurd work
  idle_by (Advance who) work d steps is = absurd work
  idle_by Daemon work d steps is = on_idle state print Daemon v v' landed d 15 (daemon_stand d v.parts) DaemonLowers (λ r. r) (λ r. r)
      (daemon_gets state print v v' d) (daemon_counts d v.parts v'.parts) steps is
  idle_by Reclaim work d steps is = on_idle state print Reclaim v v' landed d 16 (reclaim_stand v.parts) ReclaimLowers (λ r. r) (λ r. r)
      (reclaim_gets state print v v' d) (reclaim_counts v.parts v'.parts) steps is

  running_by : (event : Event) → IsWork event → (d : Disk) (left : ℕ) → Steps state print event v v' (told.Running left)
      → Serves state print event v v' d (told.Running left) → WorksOnce state print event v v' (Ok false)
  running_by (Begin who op) work d left steps is = absurd work
  running_by (Advance who) work d left steps is = absurd work
  running_by Daemon work d left steps is = on_running state print Daemon v v' landed d 15 (daemon_stand d v.parts) DaemonLowers (λ r. r) (λ r. r)
      (daemon_gets state print v v' d) (daemon_counts d v.parts v'.parts) left steps is
  running_by Reclaim work d left steps is = on_running state print Reclaim v v' landed d 16 (reclaim_stand v.parts) ReclaimLowers (λ r. r) (λ r. r)
      (reclaim_gets state print v v' d) (reclaim_counts v.parts v'.parts) left steps is

  busy_by : (event : Event) → IsWork event → (d : Disk) (holder : ℕ) → Steps state print event v v' (told.Busy holder)
      → Serves state print event v v' d (told.Busy holder) → WorksOnce state print event v v' (Ok false)
  busy_by (Begin who op) work d holder steps is = absurd work
  busy_by (Advance who) work d holder steps is = absurd work
  busy_by Daemon work d holder steps is = record {
    outcome = told.Busy holder;
    steps = steps;
    landed = same_landed v.parts v'.parts is.0.same.flights landed;
    history = is.0.history;
    faults = let same = is.0.device.faults in omega (arith, same);
    ends = (
      (
        λ at_rest. none_waits is.1 at_rest,
        inr (record {
          begun = held_by d v.parts landed holder is.1;
          same = same_tasks state v v' d is.0;
        }),
      ),
      (d, is.0.volume),
      same_counts v.parts v'.parts (same_tasks state v v' d is.0),
    );
  }
    where
      none_waits : IsHeldUp d v.parts holder → Rests Daemon v.parts → ⊥
      none_waits held at_rest = let some = ap length (sym held.front ∙ at_rest.none_waits) in omega (arith, some)
  busy_by Reclaim work d holder steps is = absurd is.1

  memory_by : (event : Event) → IsWork event → (d : Disk) → Steps state print event v v' told.NoMemory
      → Serves state print event v v' d told.NoMemory → WorksOnce state print event v v' (Err fault.NoMemory)
  memory_by (Begin who op) work d steps is = absurd work
  memory_by (Advance who) work d steps is = absurd work
  memory_by Daemon work d steps is = on_memory state print Daemon v v' landed d 15 (daemon_stand d v.parts) DaemonLowers (λ r. r) (λ r. r)
      (daemon_gets state print v v' d) (daemon_counts d v.parts v'.parts) steps is
  memory_by Reclaim work d steps is = on_memory state print Reclaim v v' landed d 16 (reclaim_stand v.parts) ReclaimLowers (λ r. r) (λ r. r)
      (reclaim_gets state print v v' d) (reclaim_counts v.parts v'.parts) steps is

  stopped_by : (event : Event) → IsWork event → (d : Disk) → Steps state print event v v' told.Stopped
      → Serves state print event v v' d told.Stopped → WorksOnce state print event v v' (Err fault.Stopped)
  stopped_by (Begin who op) work d steps is = absurd work
  stopped_by (Advance who) work d steps is = absurd work
  stopped_by Daemon work d steps is = on_stopped state print Daemon v v' landed d 15 (daemon_stand d v.parts) DaemonLowers (λ r. r) (λ r. r)
      (daemon_gets state print v v' d) (daemon_counts d v.parts v'.parts) steps is
  stopped_by Reclaim work d steps is = on_stopped state print Reclaim v v' landed d 16 (reclaim_stand v.parts) ReclaimLowers (λ r. r) (λ r. r)
      (reclaim_gets state print v v' d) (reclaim_counts v.parts v'.parts) steps is

  -- no other answer comes
  never_by : (event : Event) → IsWork event → (d : Disk) (outcome : Outcome) → Serves state print event v v' d outcome
      → (outcome ≡ told.Idle → ⊥) → ((left : ℕ) → outcome ≡ told.Running left → ⊥) → ((holder : ℕ) → outcome ≡ told.Busy holder → ⊥) → (outcome ≡ told.NoMemory → ⊥)
      → (outcome ≡ told.Stopped → ⊥) → ⊥
  never_by (Begin who op) work d outcome is idle running busy memory stopped = work
  never_by (Advance who) work d outcome is idle running busy memory stopped = work
  never_by Daemon work d (told.Running left) is idle running busy memory stopped = running left refl
  never_by Daemon work d (told.Done reply) is idle running busy memory stopped = is
  never_by Daemon work d (told.Busy holder) is idle running busy memory stopped = busy holder refl
  never_by Daemon work d (told.Released waiting) is idle running busy memory stopped = is
  never_by Daemon work d told.Idle is idle running busy memory stopped = idle refl
  never_by Daemon work d told.NotYours is idle running busy memory stopped = is
  never_by Daemon work d told.NoMemory is idle running busy memory stopped = memory refl
  never_by Daemon work d told.Stopped is idle running busy memory stopped = stopped refl
  never_by Reclaim work d (told.Running left) is idle running busy memory stopped = running left refl
  never_by Reclaim work d (told.Done reply) is idle running busy memory stopped = is
  never_by Reclaim work d (told.Busy holder) is idle running busy memory stopped = is.1
  never_by Reclaim work d (told.Released waiting) is idle running busy memory stopped = is
  never_by Reclaim work d told.Idle is idle running busy memory stopped = idle refl
  never_by Reclaim work d told.NotYours is idle running busy memory stopped = is
  never_by Reclaim work d told.NoMemory is idle running busy memory stopped = memory refl
  never_by Reclaim work d told.Stopped is idle running busy memory stopped = stopped refl

  not_stopped : (outcome : Outcome) → v.parts.stopped ≡ true → (event : Event) → Steps state print event v v' outcome → outcome ≡ told.Stopped
  not_stopped outcome is event steps = (steps.stopped is).0

pub worked_idle : {D F : Type 0} (state : D → State) (print : Print) (event : Event) (v v' : Volume D F) → Agrees state v → AllLanded v.parts
    → IsWork event → Steps state print event v v' told.Idle → WorksOnce state print event v v' (Ok true)
worked_idle state print event v v' (agrees_with d volume) landed work steps =
    idle_by state print v v' landed event work d steps (steps.serves d volume (is_yours v.parts event work))
worked_idle state print event v v' (is_stopped is) landed work steps = absurd (apart (not_stopped state print v v' landed told.Idle is.stopped event steps))
  where
    apart : told.Idle ≡ told.Stopped → ⊥
    apart e = cc

pub worked_running : {D F : Type 0} (state : D → State) (print : Print) (event : Event) (v v' : Volume D F) (left : ℕ) → Agrees state v
    → AllLanded v.parts → IsWork event → Steps state print event v v' (told.Running left) → WorksOnce state print event v v' (Ok false)
worked_running state print event v v' left (agrees_with d volume) landed work steps =
    running_by state print v v' landed event work d left steps (steps.serves d volume (is_yours v.parts event work))
worked_running state print event v v' left (is_stopped is) landed work steps =
    absurd (apart (not_stopped state print v v' landed (told.Running left) is.stopped event steps))
  where
    apart : told.Running left ≡ told.Stopped → ⊥
    apart e = cc

pub worked_busy : {D F : Type 0} (state : D → State) (print : Print) (event : Event) (v v' : Volume D F) (holder : ℕ) → Agrees state v
    → AllLanded v.parts → IsWork event → Steps state print event v v' (told.Busy holder) → WorksOnce state print event v v' (Ok false)
worked_busy state print event v v' holder (agrees_with d volume) landed work steps =
    busy_by state print v v' landed event work d holder steps (steps.serves d volume (is_yours v.parts event work))
worked_busy state print event v v' holder (is_stopped is) landed work steps =
    absurd (apart (not_stopped state print v v' landed (told.Busy holder) is.stopped event steps))
  where
    apart : told.Busy holder ≡ told.Stopped → ⊥
    apart e = cc

pub worked_memory : {D F : Type 0} (state : D → State) (print : Print) (event : Event) (v v' : Volume D F) → Agrees state v → AllLanded v.parts
    → IsWork event → Steps state print event v v' told.NoMemory → WorksOnce state print event v v' (Err fault.NoMemory)
worked_memory state print event v v' (agrees_with d volume) landed work steps =
    memory_by state print v v' landed event work d steps (steps.serves d volume (is_yours v.parts event work))
worked_memory state print event v v' (is_stopped is) landed work steps =
    absurd (apart (not_stopped state print v v' landed told.NoMemory is.stopped event steps))
  where
    apart : told.NoMemory ≡ told.Stopped → ⊥
    apart e = cc

pub worked_stopped : {D F : Type 0} (state : D → State) (print : Print) (event : Event) (v v' : Volume D F) → Agrees state v → AllLanded v.parts
    → IsWork event → Steps state print event v v' told.Stopped → WorksOnce state print event v v' (Err fault.Stopped)
worked_stopped state print event v v' (agrees_with d volume) landed work steps =
    stopped_by state print v v' landed event work d steps (steps.serves d volume (is_yours v.parts event work))
worked_stopped state print event v v' (is_stopped is) landed work steps = stopped_already state print event v v' landed is.stopped steps

pub worked_never : {D F : Type 0} (state : D → State) (print : Print) (event : Event) (v v' : Volume D F) (outcome : Outcome) → Agrees state v
    → AllLanded v.parts → IsWork event → Steps state print event v v' outcome
    → (outcome ≡ told.Idle → ⊥) → ((left : ℕ) → outcome ≡ told.Running left → ⊥) → ((holder : ℕ) → outcome ≡ told.Busy holder → ⊥)
    → (outcome ≡ told.NoMemory → ⊥) → (outcome ≡ told.Stopped → ⊥) → ⊥
worked_never state print event v v' outcome (agrees_with d volume) landed work steps idle running busy memory stopped =
    never_by state print v v' landed event work d outcome (steps.serves d volume (is_yours v.parts event work)) idle running busy memory stopped
worked_never state print event v v' outcome (is_stopped is) landed work steps idle running busy memory stopped =
    stopped (not_stopped state print v v' landed outcome is.stopped event steps)
