-- The files that the images of an event hold.
use Rattle.std.proofs.Common.{◌≡◌, ◌≢◌, ◌⊎◌, inl, inr, ⊎_elim, ℕ, zero, suc, ◌+◌, ◌≤◌, Bool, false, List, refl, sym, ◌∙◌, ap, subst, arith, Some, None}
use Rattle.std.specs.Prelude.{Option, if◌then◌else◌, ◌==◌}
use Rattle.std.proofs.lemmas.Bool.{cases_eq}
use Rattle.std.proofs.lemmas.Bool.Decides.{nat_tests}
use Rattle.pm_device.specs.Past.{Past, Left, moment}
use Rattle.pm_device.specs.State.{State, Agree, IsSame}
use Rattle.pm_device.specs.Settled.{Extends, LeavesOnly, LeavesNow}
use Rattle.pm_device.proofs.Moments.{started}
use Rattle.dn_model.specs.Disk.{Disk}
use Rattle.dn_model.specs.Files.{Files, files, IsSameFiles}
use Rattle.dn_model.specs.Own.{Print, IsOwn}
use Rattle.dn_model.specs.Apply.{after_op}
use Rattle.dn_model.specs.declared.op.Op.{Op}
use Rattle.dn_model.specs.declared.op.Reply.{Reply}
use Rattle.dn_volume.specs.declared.outcome.Outcome.{Outcome}
use Rattle.dn_volume.specs.declared.outcome.Outcome.TheVariants as told
use Rattle.dn_volume.specs.declared.flight.Flight.{Flight}
use Rattle.dn_volume.specs.declared.volume.Parts.{Parts}
use Rattle.dn_volume.specs.declared.volume.Volume.{Volume}
use Rattle.dn_volume.specs.Parties.{Flies, flight_of, flight_at}
use Rattle.dn_volume.specs.Flights.{left_of}
use Rattle.dn_volume.specs.Agrees.{IsVolume}
use Rattle.dn_volume.specs.Events.{IsBetween, MovesOn, Answers, Breaks, Advances, answered_by}
use Rattle.dn_volume.specs.Works.{Works, Stand, daemon_stand, DaemonLowers, reclaim_stand, ReclaimLowers}
use Rattle.dn_volume.proofs.LeftLater.{moment_later}
use Rattle.dn_volume.proofs.SoundStays.{stands_left, image_now}
use Rattle.dn_core.specs.declared.event.Event.{Event}
use Rattle.dn_core.specs.declared.event.Event.TheVariants.{Begin, Advance, Daemon, Reclaim}
use Rattle.dn_core.specs.Steps.{Serves, Opens, IsNotYours}
use Rattle.dn_core.specs.Images.{answering, answers_in, IsOneMore, IsImageIn, IsOwnImage, flying_then, files_then, StepImages, StepsLeaveImages}
use Rattle.dn_core.proofs.Sounds.{yours_or_not}

same_as : (f g h : Files) → IsSameFiles f g → IsSameFiles g h → IsSameFiles f h
same_as f g h first second name = first name ∙ second name

quiet_same : (d e c : Disk) → IsSameFiles (files e) (files d) → IsSameFiles (files c) (files d) ⊎ IsSameFiles (files c) (files e)
    → IsSameFiles (files c) (files d)
quiet_same d e c quiet (inl same) = same
quiet_same d e c quiet (inr same) = same_as (files c) (files e) (files d) same quiet

quiet_image : (print : Print) (d e : Disk) (c : List ℕ) → IsSameFiles (files e) (files d) → IsBetween print d e c → IsImageIn print d None c
quiet_image print d e c quiet is = record {
  disk = is.disk;
  stands_for = is.stands_for;
  own = is.own;
  files_are = λ own. quiet_same d e is.disk quiet is.same;
  quiet_files = λ none. quiet_same d e is.disk quiet is.same;
}

one_more : (d e c : Disk) (op : Op) → IsSameFiles (files e) (after_op (files d) op)
    → IsSameFiles (files c) (files d) ⊎ IsSameFiles (files c) (files e) → IsOneMore (files d) (Some op) (files c)
one_more d e c op after (inl same) = inl same
one_more d e c op after (inr same) = inr (same_as (files c) (files e) (after_op (files d) op) same after)

one_image : (print : Print) (d e : Disk) (op : Op) (c : List ℕ) → (IsOwn print d → IsSameFiles (files e) (after_op (files d) op))
    → IsBetween print d e c → IsImageIn print d (Some op) c
one_image print d e op c after is = record {
  disk = is.disk;
  stands_for = is.stands_for;
  own = is.own;
  files_are = λ own. one_more d e is.disk op (after own) is.same;
  quiet_files = λ none. clash none;
}
  where
    clash : Some op ≡ None → IsSameFiles (files is.disk) (files d)
    clash e = cc

weaken : (s t : State) (P Q : List ℕ → Type 0) → ((c : List ℕ) → P c → Q c) → LeavesOnly s t P → LeavesOnly s t Q
weaken s t P Q on is = record { extends = is.extends; each = λ m c since left. on c (is.each m c since left) }

-- the images at the end are among them
at_end : (s t : State) (P : List ℕ → Type 0) → LeavesOnly s t P → LeavesNow t P
at_end s t P is c left = is.each (moment t.past) c (moment_later s.past t.past is.extends) left

own_image : (print : Print) (d : Disk) (flying : Option Op) (c : List ℕ) → IsOwn print d → IsImageIn print d flying c
    → IsOwnImage print (files d) flying c
own_image print d flying c own is = record { disk = is.disk; stands_for = is.stands_for; own = is.own own; files_are = is.files_are own }

module _ {D F : Type 0} (state : D → State) (agree : (x : D) → Agree (state x).now (state x).past) (print : Print) (v v' : Volume D F) (d : Disk)
    (volume : IsVolume d v.parts (state v.device)) where
  -- an event with no file changed, and one that may change files by an operation
  record LeavesBy (flying : Option Op) (outcome : Outcome) : Type 0 where
    pub during : LeavesOnly (state v.device) (state v'.device) (IsImageIn print d flying)
    pub then_left : IsOwn print d → LeavesNow (state v'.device) (IsOwnImage print (files_then (files d) flying outcome) (flying_then flying outcome))

  quiet_during : (who : ℕ) → MovesOn state print who v v' d → LeavesOnly (state v.device) (state v'.device) (IsImageIn print d None)
  quiet_during who on = weaken (state v.device) (state v'.device) (IsBetween print d on.after) (IsImageIn print d None)
      (λ c is. quiet_image print d on.after c on.quiet is) on.moves.images

  broken_during : (who : ℕ) (flying : Option Op) → Breaks state print who flying v v' d
      → LeavesOnly (state v.device) (state v'.device) (IsImageIn print d flying)
  broken_during who None breaks = weaken (state v.device) (state v'.device) (IsBetween print d breaks.after) (IsImageIn print d None)
      (λ c is. quiet_image print d breaks.after c (breaks.quiet refl) is) breaks.images
  broken_during who (Some op) breaks = weaken (state v.device) (state v'.device) (IsBetween print d breaks.after) (IsImageIn print d (Some op))
      (λ c is. one_image print d breaks.after op c (λ own. (breaks.answering op refl own).1) is) breaks.images

  answered_during : (who : ℕ) (op : Op) (reply : Reply) → Answers state print who op reply v v' d
      → LeavesOnly (state v.device) (state v'.device) (IsImageIn print d (Some op))
  answered_during who op reply a = weaken (state v.device) (state v'.device) (IsBetween print d a.after) (IsImageIn print d (Some op))
      (λ c is. one_image print d a.after op c a.files_after is) a.moves.images

  answered_then : (who : ℕ) (op : Op) (reply : Reply) → Answers state print who op reply v v' d → IsOwn print d
      → LeavesNow (state v'.device) (IsOwnImage print (after_op (files d) op) None)
  answered_then who op reply a own c left =
      let is = image_now print a.after v'.parts (state v'.device) a.moves.volume.fast (a.moves.own own) (agree v'.device) c left in
      record {
        disk = is.disk;
        stands_for = is.stands_for;
        own = is.own;
        files_are = same_as (files is.disk) (files a.after) (after_op (files d) op) is.same (a.files_after own);
      }

  untouched_during : IsSame (state v.device) (state v'.device) → LeavesOnly (state v.device) (state v'.device) (IsImageIn print d None)
  untouched_during same = record {
    extends = subst (λ (o : Option Past). Extends (state v.device).past o) (sym same.past) now.extends;
    each = λ m c since left. now.each m c since (subst (λ (o : Option Past). Left o m c) same.past left);
  }
    where
      here : LeavesNow (state v.device) (IsImageIn print d None)
      here c left = record {
        disk = d;
        stands_for = stands_left d v.parts.geometry (state v.device) volume.fast (agree v.device) c left;
        own = λ own. own;
        files_are = λ own name. refl;
        quiet_files = λ none name. refl;
      }

      now : LeavesOnly (state v.device) (state v.device) (IsImageIn print d None)
      now = started (state v.device) (IsImageIn print d None) here

  quietly : (outcome : Outcome) → ((flying : Option Op) → files_then (files d) None outcome ≡ files d) → flying_then None outcome ≡ None
      → LeavesOnly (state v.device) (state v'.device) (IsImageIn print d None) → LeavesBy None outcome
  quietly outcome same none during = record {
    during = during;
    then_left = λ own c left. subst (λ (f : Files). IsOwnImage print f (flying_then None outcome) c) (sym (same None))
        (subst (λ (o : Option Op). IsOwnImage print (files d) o c) (sym none) (own_image print d None c own
        (at_end (state v.device) (state v'.device) (IsImageIn print d None) during c left)));
  }

  works_leave : (who : ℕ) (stand : Stand) (lowers : Parts → Parts → ℕ → Type 0) (outcome : Outcome) → Works state print who stand lowers v v' d outcome
      → LeavesBy None outcome
  works_leave who stand lowers (told.Running left) is = quietly (told.Running left) (λ o. refl) refl (quiet_during who is.0)
  works_leave who stand lowers (told.Done reply) is = absurd is
  works_leave who stand lowers (told.Busy holder) is = quietly (told.Busy holder) (λ o. refl) refl (untouched_during is.0.device)
  works_leave who stand lowers (told.Released left) is = absurd is
  works_leave who stand lowers told.Idle is = quietly told.Idle (λ o. refl) refl (untouched_during is.0.device)
  works_leave who stand lowers told.NotYours is = absurd is
  works_leave who stand lowers told.NoMemory is = quietly told.NoMemory (λ o. refl) refl (untouched_during is.0.device)
  works_leave who stand lowers told.Stopped is = quietly told.Stopped (λ o. refl) refl (broken_during who None is.0)

  opens_leave : (who : ℕ) (op : Op) (outcome : Outcome) → Opens state print who op v v' d outcome → LeavesBy None outcome
  opens_leave who op (told.Running left) is = quietly (told.Running left) (λ o. refl) refl (untouched_during is.device)
  opens_leave who op (told.Done reply) is = quietly (told.Done reply) (λ o. refl) refl (untouched_during is.device)
  opens_leave who op (told.Busy holder) is = quietly (told.Busy holder) (λ o. refl) refl (untouched_during is.0.device)
  opens_leave who op (told.Released left) is = quietly (told.Released left) (λ o. refl) refl (quiet_during 16 is.moves)
  opens_leave who op told.Idle is = absurd is
  opens_leave who op told.NotYours is = absurd is
  opens_leave who op told.NoMemory is = quietly told.NoMemory (λ o. refl) refl (untouched_during is.0.device)
  opens_leave who op told.Stopped is = quietly told.Stopped (λ o. refl) refl (broken_during 16 None is.breaks)

  differs : (left : ℕ) → left ≢ 1 → (left == 1) ≡ false
  differs left ne = grind (arith, nat_tests)

  not_last : (left n : ℕ) (op : Op) → left ≡ n + 1 → 1 ≤ n → answered_by left op ≡ None
  not_last left n op is some = elim (cases_eq left 1) [
    | inl one ↦ absurd (omega (arith, is, some, one))
    | inr ne ↦ ap (λ (b : Bool). if b then Some op else None) (differs left ne)
  ]

  last : (left : ℕ) (op : Op) → left ≡ 1 → answered_by left op ≡ Some op
  last left op is = ap (λ (n : ℕ). answered_by n op) is

  advances_leave : (who : ℕ) (op : Op) (left : ℕ) (outcome : Outcome) → Advances state print who op left v v' d outcome
      → LeavesBy (answered_by left op) outcome
  advances_leave who op left (told.Running n) is = subst (λ (o : Option Op). LeavesBy o (told.Running n)) (sym (not_last left n op is.2 is.3))
      (quietly (told.Running n) (λ o. refl) refl (quiet_during who is.0))
  advances_leave who op left (told.Done reply) is = subst (λ (o : Option Op). LeavesBy o (told.Done reply)) (sym (last left op is.1))
      (record { during = answered_during who op reply is.0; then_left = answered_then who op reply is.0 })
  advances_leave who op left (told.Busy holder) is = absurd is
  advances_leave who op left (told.Released waiting) is = absurd is
  advances_leave who op left told.Idle is = absurd is
  advances_leave who op left told.NotYours is = absurd is
  advances_leave who op left told.NoMemory is = absurd is
  advances_leave who op left told.Stopped is = record {
    during = broken_during who (answered_by left op) is;
    then_left = λ own c may. own_image print d (answered_by left op) c own
        (at_end (state v.device) (state v'.device) (IsImageIn print d (answered_by left op)) (broken_during who (answered_by left op) is) c may);
  }

  flying_is : (who : ℕ) (f : Flight) → Flies v.parts who f → answering (flight_of v.parts who) ≡ answered_by (left_of f) f.op
  flying_is zero f flies = absurd (let one = flies.client in omega (arith, one))
  flying_is (suc k) f flies = ap answering (ap (flight_at v.parts.flights.items) (omega arith) ∙ flies.is)

  served : (event : Event) (outcome : Outcome) → Serves state print event v v' d outcome → LeavesBy (answers_in v.parts event) outcome
  served (Begin who op) outcome is = opens_leave who op outcome is.1
  served (Advance who) outcome is = subst (λ (o : Option Op). LeavesBy o outcome) (sym (flying_is who is.flight is.flies))
      (advances_leave who is.flight.op (left_of is.flight) outcome is.advances)
  served Daemon outcome is = works_leave 15 (daemon_stand d v.parts) DaemonLowers outcome is
  served Reclaim outcome is = works_leave 16 (reclaim_stand v.parts) ReclaimLowers outcome is

-- a volume on which nothing changed
same_leaves : {D F : Type 0} (state : D → State) → ((x : D) → Agree (state x).now (state x).past) → (print : Print) (v : Volume D F) (d : Disk)
    → IsVolume d v.parts (state v.device) → LeavesOnly (state v.device) (state v.device) (IsImageIn print d None)
same_leaves state agree print v d volume = untouched_during state agree print v v d volume
    (record { now = refl; past = refl; faults = refl })

-- which nothing changed, though an operation might be answered
may_be : (print : Print) (d : Disk) (flying : Option Op) (c : List ℕ) → IsImageIn print d None c → IsImageIn print d flying c
may_be print d None c is = is
may_be print d (Some op) c is = record {
  disk = is.disk;
  stands_for = is.stands_for;
  own = is.own;
  files_are = λ own. inl (is.quiet_files refl);
  quiet_files = λ none. is.quiet_files refl;
}

refused_answers : (b : Parts) (event : Event) → IsNotYours b event → answers_in b event ≡ None
refused_answers b (Begin who op) not = refl
refused_answers b (Advance zero) not = refl
refused_answers b (Advance (suc k)) not = pick (flight_at b.flights.items k) refl
  where
    pick : (o : Option Flight) → flight_at b.flights.items k ≡ o → answering o ≡ None
    pick None is = refl
    pick (Some f) is = absurd (not f (record { client = omega arith; is = ap (flight_at b.flights.items) (omega arith) ∙ is }))
refused_answers b Daemon not = refl
refused_answers b Reclaim not = refl

pub steps_leave_images : {D F : Type 0} (state : D → State) → StepsLeaveImages D F state
steps_leave_images {D} {F} state agree print event v v' d outcome volume steps =
    ⊎_elim refused (λ yours. let is = served state agree print v v' d volume event outcome (steps.serves d volume yours) in
    record { during = is.during; then_left = is.then_left }) (yours_or_not v.parts event)
  where
    refused : IsNotYours v.parts event → StepImages state print event v v' d outcome
    refused not =
        let told = steps.not_yours volume.running not in
        let none = refused_answers v.parts event not in
        let during = same_leaves state agree print v d volume in
        subst (λ (w : Volume D F). StepImages state print event v w d outcome) (sym told.1)
        (subst (λ (o : Outcome). StepImages state print event v v d o) (sym told.0) (record {
          during = weaken (state v.device) (state v.device) (IsImageIn print d None) (IsImageIn print d (answers_in v.parts event))
              (may_be print d (answers_in v.parts event)) during;
          then_left = λ own c left. own_image print d None c own (at_end (state v.device) (state v.device) (IsImageIn print d None) during c left);
        }))
