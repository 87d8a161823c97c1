-- How the begin of a cleaning ends.
use Rattle.std.proofs.Common.{◌≡◌, ◌⊎◌, inl, ⊎_elim, ℕ, ◌+◌, ◌-◌, ◌<◌, ◌≤◌, true, List, [], length, refl, sym, ◌∙◌, ap, subst, arith, append-nil}
use Rattle.std.specs.Prelude.{slice_get, Option, Some, None, IsSome}
use Rattle.std.proofs.lemmas.Option.{slice_get_cases}
use Rattle.pm_device.specs.State.{State, IsSame, Agree}
use Rattle.pm_device.specs.Settled.{LeavesOnly}
use Rattle.pm_device.specs.Words.{IsIn}
use Rattle.pm_device.proofs.Only.{stores_only-none}
use Rattle.pm_layout.specs.declared.Geometry.{Geometry}
use Rattle.page_alloc.specs.Free.{FreePages}
use Rattle.dedupe_queue.specs.declared.Work.{Work}
use Rattle.file_write.specs.Take.{TakesFirst}
use Rattle.file_write.proofs.Taking.{took-length}
use Rattle.dn_model.specs.Disk.{Disk}
use Rattle.dn_model.specs.Image.{StandsFor}
use Rattle.dn_model.specs.Own.{Print}
use Rattle.law_table_on_disk.proofs.OneWord.{unread_images}
use Rattle.dn_volume.specs.declared.background.Cleaning.{Cleaning}
use Rattle.dn_volume.specs.declared.volume.InodeState.{InodeState}
use Rattle.dn_volume.specs.declared.volume.Parts.{Parts}
use Rattle.dn_volume.specs.declared.volume.Volume.{Volume}
use Rattle.dn_volume.specs.Parties.{flight_at}
use Rattle.dn_volume.specs.Agrees.{StandsFast, IsVolume}
use Rattle.dn_volume.specs.Begins.{IsUntouched}
use Rattle.dn_volume.specs.Cleans.{may_clean}
use Rattle.dn_volume.specs.Events.{IsBetween, MovesOn}
use Rattle.dn_volume.specs.Works.{MayWork, clean_stand, CleanLowers, cleaning_events, clean_work, taken_to_clean, sharing_events}
use Rattle.dn_volume.proofs.Kept.{ops_same, quiet_alone, quiet_accounts}
use Rattle.dn_volume.proofs.Since.{moves_on_since}
use Rattle.log_clean.specs.Beginning.{Plans, MakesQueueRoom, HasRoomFor, Notes, units_for}
use Rattle.log_clean.proofs.Cleanable.{one_may, may_beside}
use Rattle.log_clean.proofs.Grown.{untouched_grown}
use Rattle.log_clean.proofs.CleaningBegun.{begun}

-- images of now stand for the disk
images_now : (print : Print) (d : Disk) (s : State) (g : Geometry) → StandsFast d g s → Agree s.now s.past → LeavesOnly s s (IsBetween print d d)
images_now print d s g fast agree = record {
  extends = old.extends;
  each = λ m c late left. record { disk = d; stands_for = old.each m c late left; own = λ own. own; same = inl (λ name. refl) };
}
  where
    old : LeavesOnly s s (λ c. StandsFor c d)
    old = unread_images d 0 0 (λ a v told inside. omega (arith, inside.1)) s s (stores_only-none (IsIn 0 0) s agree) fast.stands fast.valid agree
        fast.long

-- Where nothing was begun, one whose log may be cleaned is something to do.
pub may_work : (b : Parts) (ino : ℕ) → ino < length b.inodes.items → may_clean b ino ≡ true → MayWork (clean_stand b)
may_work b ino lt may = record { some = λ rests. one_may b ino lt may rests.none_may; loose = λ holder held. held }

pub not_begun : (o : Option Cleaning) → o ≡ None → IsSome o → ⊥
not_begun None none some = absurd (cc some)
not_begun (Some c) none some = absurd (cc none)

module _ {D F : Type 0} (state : D → State) (v w : Volume D F) where
  pub untouched_as : w ≡ v → Agree (state v.device).now (state v.device).past → (d : Disk) → IsVolume d v.parts (state v.device)
      → IsUntouched state v w d
  untouched_as same agree d volume = subst (λ (x : Volume D F). IsUntouched state v x d) (sym same)
      (untouched_grown state v v agree (record { now = refl; past = refl; faults = refl })
      (record { parts = refl; queue = refl; room = omega arith }) (inl refl) d volume)

-- Room was made for a cleaning that is planned.
module _ {D F : Type 0} (state : D → State) (v v1 v2 : Volume D F) (ino : ℕ) (c : Cleaning) (plans : Plans state v v1 ino c)
    (agree : Agree (state v.device).now (state v.device).past) (device : IsSame (state v1.device) (state v2.device))
    (spare : ((state v2.device).spare ≡ (state v1.device).spare) ⊎ (v1.parts.owed.units ≤ (state v2.device).spare))
    (makes : MakesQueueRoom v1.parts v2.parts) where
  device_now : IsSame (state v.device) (state v2.device)
  device_now = subst (λ (x : D). IsSame (state x) (state v2.device)) plans.device device

  owed_was : v1.parts.owed.units ≡ v.parts.owed.units
  owed_was = ap (λ (p : Parts). p.owed.units) plans.parts

  spare_now : ((state v2.device).spare ≡ (state v.device).spare) ⊎ (v.parts.owed.units ≤ (state v2.device).spare)
  spare_now = subst (λ (k : ℕ). ((state v2.device).spare ≡ (state v.device).spare) ⊎ (k ≤ (state v2.device).spare)) owed_was
      (subst (λ (x : D). ((state v2.device).spare ≡ (state x).spare) ⊎ (v1.parts.owed.units ≤ (state v2.device).spare)) plans.device spare)

  -- with the pages that were free before
  abbrev grown_parts : Parts
  grown_parts = record v.parts { queue = v2.parts.queue }

  makes_now : MakesQueueRoom v.parts grown_parts
  makes_now = record {
    parts = refl;
    queue = makes.queue ∙ ap (λ (p : Parts). p.queue.items) plans.parts;
    room = let same = ap (λ (p : Parts). p.queue.room) plans.parts in let more = makes.room in omega (arith, same, more);
  }

  parts_two : v2.parts ≡ record grown_parts { free = v1.parts.free }
  parts_two = makes.parts ∙ ap (λ (p : Parts). record p { queue = v2.parts.queue }) plans.parts

  -- the pages are as they were taken
  pub takes_still : TakesFirst v.parts.free v2.parts.free c.pages.items
  takes_still = subst (λ (f : FreePages). TakesFirst v.parts.free f c.pages.items) (sym (ap (λ (p : Parts). p.free) makes.parts)) plans.takes

  -- The pages were put back.
  pub untouched_back : (w : Volume D F) → w.device ≡ v2.device → w.parts ≡ record v2.parts { free = w.parts.free } → w.parts.free ≡ v.parts.free
      → (d : Disk) → IsVolume d v.parts (state v.device) → IsUntouched state v w d
  untouched_back w same_device same back d volume = untouched_grown state v w agree
      (subst (λ (x : D). IsSame (state v.device) (state x)) (sym same_device) device_now)
      (subst (λ (p : Parts). MakesQueueRoom v.parts p) (sym (same_back ∙ ap (λ (p : Parts). record p { free = v.parts.free }) parts_two))
      makes_now)
      (subst (λ (x : D). ((state x).spare ≡ (state v.device).spare) ⊎ (v.parts.owed.units ≤ (state x).spare)) (sym same_device) spare_now)
      d volume
    where
      same_back : w.parts ≡ record v2.parts { free = v.parts.free }
      same_back = same ∙ ap (λ (f : FreePages). record v2.parts { free = f }) back

  -- The cleaning is begun.
  module _ (w : Volume D F) (print : Print) (d : Disk) (volume : IsVolume d v.parts (state v.device))
      (none_begun : v.parts.reclaiming.cleaning ≡ None) (none_waits : v.parts.reclaiming.waiting ≡ 0) (inside : ino < length v.parts.inodes.items) (may : may_clean v.parts ino ≡ true)
      (agree2 : Agree (state v2.device).now (state v2.device).past) (room : HasRoomFor c v2.parts (state v2.device))
      (same_device : w.device ≡ v2.device) (notes : Notes c v2.parts w.parts) where
    abbrev mid : Volume D F
    mid = record v { device = v2.device; parts = grown_parts }

    untouched : IsUntouched state v mid d
    untouched = untouched_grown state v mid agree device_now makes_now spare_now d volume

    notes_now : Notes c (record grown_parts { free = v1.parts.free }) w.parts
    notes_now = subst (λ (p : Parts). Notes c p w.parts) parts_two notes

    room_free : HasRoomFor c (record grown_parts { free = v1.parts.free }) (state v2.device)
    room_free = subst (λ (p : Parts). HasRoomFor c p (state v2.device)) parts_two room

    room_now : HasRoomFor c grown_parts (state v2.device)
    room_now = record { units = room_free.units; few_units = room_free.few_units; queue = room_free.queue; few_due = room_free.few_due }

    found : (n : InodeState) × (slice_get v.parts.inodes.items c.ino ≡ Some n)
    found = ⊎_elim (λ there. (there.0, there.2)) (λ past. absurd (let same = plans.ino_is in omega (arith, inside, same, past.0)))
        (slice_get_cases v.parts.inodes.items c.ino).1

    may_now : may_clean grown_parts c.ino ≡ true
    may_now = may_beside v.parts v2.parts.queue c.ino (ap (may_clean v.parts) plans.ino_is ∙ may)

    begun_mid : IsVolume d w.parts (state v2.device)
    begun_mid = begun d c v1.parts.free grown_parts w.parts (state v2.device) untouched.volume agree2 none_begun found.0 found.1 may_now plans.takes
        plans.as_many plans.none_written (plans.planned d volume) room_now notes_now

    pub begun_now : IsVolume d w.parts (state w.device)
    begun_now = subst (λ (x : D). IsVolume d w.parts (state x)) (sym same_device) begun_mid

    part : {X : Type 0} (f : Parts → X) → f w.parts ≡ f (record (record grown_parts { free = v1.parts.free }) {
      inodes = w.parts.inodes;
      owed = record grown_parts.owed {
        units = grown_parts.owed.units + units_for (length c.pages.items);
        queue = grown_parts.owed.queue + length c.due.items;
      };
      made = w.parts.made;
      reclaiming = record grown_parts.reclaiming { cleaning = Some c };
    })
    part f = ap f notes_now.parts

    moves_mid : MovesOn state print 16 mid w d
    moves_mid = record {
      after = d;
      moves = record {
        volume = begun_now;
        images = subst (λ (x : D). LeavesOnly (state v2.device) (state x) (IsBetween print d d)) (sym same_device)
            (images_now print d (state v2.device) v.parts.geometry untouched.volume.fast agree2);
        own = λ own. own;
        accounts = λ own. quiet_accounts print d;
        alone = λ him. quiet_alone d;
        traces = record {
          more = [];
          trace = part (λ p. p.trace.items) ∙ sym (append-nil v.parts.trace.items);
          words = λ slot. refl;
        };
        others = record {
          flights = λ q some ne. part (λ p. flight_at p.flights.items (q - 1));
          sharing = λ ne. part (λ p. p.sharing);
          cleaning = λ ne. absurd (ne refl);
        };
        counts = notes_now.counts;
        geometry = part (λ p. p.geometry);
        faults = let same = ap (λ (x : D). (state x).faults) same_device in omega (arith, same);
      };
      quiet = λ name. refl;
      ops = ops_same grown_parts w.parts (part (λ p. p.flights.items));
      history = part (λ p. p.history.items);
    }

    moves : MovesOn state print 16 v w d
    moves = moves_on_since state v mid w print 16 d untouched moves_mid

    cleaning_is : w.parts.reclaiming.cleaning ≡ Some c
    cleaning_is = part (λ p. p.reclaiming.cleaning)

    events_left : cleaning_events (Some c) ≡ length c.pages.items + 1
    events_left = let none = plans.none_written in omega (arith, none)

    lowers : (left : ℕ) → left ≡ length c.pages.items + 1 → CleanLowers v.parts w.parts left
    lowers left is = record {
      left_is = is ∙ sym events_left ∙ ap cleaning_events (sym cleaning_is);
      less =
          let work = ap clean_work cleaning_is in
          let before = ap clean_work none_begun in
          let taken = ap taken_to_clean cleaning_is in
          let took_none = ap taken_to_clean none_begun in
          let free = part (λ p. length p.free.free) in
          let pages = part (λ p. p.free.pages) in
          let same_pages = plans.takes.same in
          let all = took-length v.parts.free v1.parts.free c.pages.items plans.takes in
          let few = plans.few in
          let waiting = part (λ p. p.reclaiming.waiting) in
          let queue = part (λ p. length p.queue.items) ∙ ap (λ (ws : List Work). length ws) makes_now.queue in
          let shared = part (λ p. sharing_events p.sharing) in
          omega (arith, work, before, taken, took_none, free, pages, same_pages, all, few, waiting, queue, shared, events_left);
      none_waits = part (λ p. p.reclaiming.waiting) ∙ none_waits;
      sharing = part (λ p. p.sharing);
      rests = λ rests. part (λ p. p.queue.items) ∙ makes_now.queue ∙ rests.none_waits;
      trace = part (λ p. p.trace.items);
    }

    pub works : (left : ℕ) → left ≡ length c.pages.items + 1
        → MovesOn state print 16 v w d × MayWork (clean_stand v.parts) × CleanLowers v.parts w.parts left
    works left is = (moves, may_work v.parts ino inside may, lowers left is)
