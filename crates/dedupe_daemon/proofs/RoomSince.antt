-- An event of the daemon after room was made for it.
use Rattle.std.proofs.Common.{◌≡◌, ℕ, ◌-◌, ◌<◌, ◌≤◌, List, sym, ◌∙◌, ap, subst}
use Rattle.std.specs.Prelude.{None, IsSome, slice_get}
use Rattle.pm_device.specs.State.{State, Agree}
use Rattle.dn_model.specs.Disk.{Disk}
use Rattle.dn_model.specs.Own.{Print}
use Rattle.dn_volume.specs.declared.outcome.Outcome.{Outcome}
use Rattle.dn_volume.specs.declared.outcome.Outcome.TheVariants.{Running, Done, Busy, Released, Idle, NotYours, NoMemory, Stopped}
use Rattle.dn_volume.specs.declared.volume.InodeState.{InodeState}
use Rattle.dn_volume.specs.declared.volume.Parts.{Parts}
use Rattle.dn_volume.specs.declared.volume.Volume.{Volume}
use Rattle.dn_volume.specs.Parties.{Holds, by_client, by_daemon, by_cleaning, flight_at}
use Rattle.dn_volume.specs.Agrees.{IsVolume}
use Rattle.dn_volume.specs.Begins.{IsUntouched}
use Rattle.dn_volume.specs.Works.{IsHeldUp, DaemonRests, MayWork, DaemonLowers, DaemonWorks, daemon_stand, daemon_work, used_pages}
use Rattle.dn_volume.proofs.SameRoom.{room_joins}
use Rattle.reclaim.specs.RoomMade.{MakesRoom}
use Rattle.reclaim.proofs.RoomThen.{room_untouched, moves_on_since, breaks_since}

-- what the stand of the daemon reads
pub record SameStand (b c : Parts) : Type 0 where
  pub sharing : c.sharing ≡ b.sharing
  pub queue : c.queue.items ≡ b.queue.items
  pub inodes : c.inodes.items ≡ b.inodes.items
  pub flights : c.flights.items ≡ b.flights.items
  pub waiting : c.reclaiming.waiting ≡ b.reclaiming.waiting
  pub cleaning : c.reclaiming.cleaning ≡ b.reclaiming.cleaning

module _ (b c : Parts) (same : SameStand b c) where
  rests_on : DaemonRests b → DaemonRests c
  rests_on is = record { none_begun = same.sharing ∙ is.none_begun; none_waits = same.queue ∙ is.none_waits }

  holds_on : (who ino : ℕ) → Holds b who ino → Holds c who ino
  holds_on who ino (by_client f flies has) = by_client f
      (record { client = flies.client; is = ap (λ fs. flight_at fs (who - 1)) same.flights ∙ flies.is }) has
  holds_on who ino (by_daemon x him is at) = by_daemon x him (same.sharing ∙ is) at
  holds_on who ino (by_cleaning x him is at) = by_cleaning x him (same.cleaning ∙ is) at

  held_on : (d : Disk) (holder : ℕ) → IsHeldUp d b holder → IsHeldUp d c holder
  held_on d holder is = record {
    none_begun = same.sharing ∙ is.none_begun;
    work = is.work;
    rest = is.rest;
    front = same.queue ∙ is.front;
    fresh = record {
      live = is.fresh.live;
      kept = is.fresh.kept;
      is_kept = ap (λ (ns : List InodeState). slice_get ns is.work.ino) same.inodes ∙ is.fresh.is_kept;
      round = is.fresh.round;
      place = is.fresh.place;
      by = is.fresh.by;
      mapped = is.fresh.mapped;
      by_item = is.fresh.by_item;
    };
    holds = holds_on holder is.work.ino is.holds;
  }

pub same_back : (b c : Parts) → SameStand b c → SameStand c b
same_back b c same = record {
  sharing = sym same.sharing;
  queue = sym same.queue;
  inodes = sym same.inodes;
  flights = sym same.flights;
  waiting = sym same.waiting;
  cleaning = sym same.cleaning;
}

pub may_on : (d : Disk) (b c : Parts) → SameStand b c → MayWork (daemon_stand d c) → MayWork (daemon_stand d b)
may_on d b c same may = record {
  some = λ rests. may.some (rests_on b c same rests);
  loose = λ holder held. may.loose holder (held_on b c same d holder held);
}

module _ {D F : Type 0} (state : D → State) (w w1 : Volume D F) (made : MakesRoom state w w1) where
  pub stand_made : SameStand w.parts w1.parts
  stand_made = record {
    sharing = ap (λ (p : Parts). p.sharing) made.parts;
    queue = ap (λ (p : Parts). p.queue.items) made.parts;
    inodes = ap (λ (p : Parts). p.inodes.items) made.parts;
    flights = ap (λ (p : Parts). p.flights.items) made.parts;
    waiting = ap (λ (p : Parts). p.reclaiming.waiting) made.parts;
    cleaning = ap (λ (p : Parts). p.reclaiming.cleaning) made.parts;
  }

  module _ (agree : Agree (state w.device).now (state w.device).past) (w2 : Volume D F) (print : Print) (d : Disk)
      (v : IsVolume d w.parts (state w.device)) where
    untouched_since : IsUntouched state w1 w2 d → IsUntouched state w w2 d
    untouched_since is =
        let before = room_untouched state w w1 made agree d v in
        record {
          volume = is.volume;
          device = record {
            now = is.device.now ∙ before.device.now;
            past = is.device.past ∙ before.device.past;
            faults = is.device.faults ∙ before.device.faults;
          };
          same = room_joins w.parts w1.parts w2.parts before.same is.same;
          history = is.history ∙ before.history;
          made = is.made ∙ before.made;
        }

    lowers_since : (n : ℕ) → DaemonLowers w1.parts w2.parts n → DaemonLowers w.parts w2.parts n
    lowers_since n is = record {
      left_is = is.left_is;
      less = subst (λ (k : ℕ). daemon_work w2.parts < k) work_same is.less;
      waiting = is.waiting ∙ stand_made.waiting;
      pages = subst (λ (k : ℕ). used_pages w2.parts ≤ k) (ap (λ (p : Parts). used_pages p) made.parts) is.pages;
    }
      where
        work_same : daemon_work w1.parts ≡ daemon_work w.parts
        work_same = ap (λ (p : Parts). daemon_work p) made.parts

    pub daemon_since : (outcome : Outcome) → DaemonWorks state print w1 w2 d outcome → DaemonWorks state print w w2 d outcome
    daemon_since (Running n) is = (
      moves_on_since state w w1 made w2 print 15 d is.0,
      may_on d w.parts w1.parts stand_made is.1,
      lowers_since n is.2,
    )
    daemon_since (Done reply) is = absurd is
    daemon_since (Busy holder) is = (untouched_since is.0, held_on w1.parts w.parts (same_back w.parts w1.parts stand_made) d holder is.1)
    daemon_since (Released waiting) is = absurd is
    daemon_since Idle is = (untouched_since is.0, rests_on w1.parts w.parts (same_back w.parts w1.parts stand_made) is.1)
    daemon_since NotYours is = absurd is
    daemon_since NoMemory is = (
      untouched_since is.0,
      may_on d w.parts w1.parts stand_made is.1,
      λ begun. is.2 (subst (λ o. IsSome o) (sym stand_made.sharing) begun),
    )
    daemon_since Stopped is = (breaks_since state w w1 made w2 print 15 d None is.0, may_on d w.parts w1.parts stand_made is.1)
