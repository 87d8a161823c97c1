-- A stale item is taken out of the queue; or the front item, which isn't stale, is held up.
use Rattle.std.proofs.Common.{◌≡◌, ⊎_elim, ℕ, ◌+◌, ◌*◌, ◌^◌, ◌<◌, ◌≤◌, false, List, [], ◌∷◌, length, refl, sym, ◌∙◌, ap, subst, arith}
use Rattle.std.specs.Prelude.{slice_get, Option, Some, None, Contains, IsSome, slice_index_or}
use Rattle.pm_device.specs.State.{State, Agree}
use Rattle.dedupe_queue.specs.declared.Work.{Work}
use Rattle.dn_model.specs.Maps.{Mapping}
use Rattle.dn_model.specs.Disk.{Disk, maps}
use Rattle.dn_model.specs.Own.{Print, LivePlace}
use Rattle.law_table.proofs.Rows.{listed_cases}
use Rattle.dn_volume.specs.declared.background.Sharing.{Sharing}
use Rattle.dn_volume.specs.declared.volume.InodeState.{InodeState}
use Rattle.dn_volume.specs.declared.volume.Parts.{Parts}
use Rattle.dn_volume.specs.declared.volume.Volume.{Volume}
use Rattle.dn_volume.specs.Parties.{Holds, by_client, by_daemon, by_cleaning}
use Rattle.dn_volume.specs.Inodes.{AreInodesOf}
use Rattle.dn_volume.specs.Balance.{times, raised_to_share, added_to_share}
use Rattle.dn_volume.specs.Shares.{IsWaiting, in_queue, is_begun}
use Rattle.dn_volume.specs.Reserve.{units_to_share, changes_to_share}
use Rattle.dn_volume.specs.Agrees.{IsVolume, Agrees}
use Rattle.dn_volume.specs.Events.{MovesOn}
use Rattle.dn_volume.specs.Works.{IsFresh, IsHeldUp, MayWork, DaemonLowers, sharing_events, daemon_stand}
use Rattle.dn_volume.proofs.HandsKept.{flies_before, flies_still}
use Rattle.dn_volume.proofs.Stills.{still_same}
use Rattle.dn_volume.proofs.Tables.{running_disk}
use Rattle.count_events.proofs.UsedPages.{used_same}
use Rattle.reclaim.proofs.DyingFound.{read_at}
use Rattle.reclaim.proofs.NextPlace.{inside_list}
use Rattle.reclaim.proofs.NodesChanged.{same_some}
use Rattle.dedupe_daemon.specs.Daemon.{PopsStale}
use Rattle.dedupe_daemon.specs.Fronts.{IsFreshWork, item_at}
use Rattle.dedupe_daemon.proofs.DaemonEvent.{DaemonEvent, flights_same, cleaning_same, daemon_moves}
use Rattle.dedupe_daemon.proofs.DaemonRoom.{room_kept}
use Rattle.dedupe_daemon.proofs.QuietEvent.{disk_same, leaves_same, shown_same}
use Rattle.dedupe_daemon.proofs.Passed.{none_some}
use Rattle.dedupe_daemon.proofs.Fronts.{of_file, found_fresh, is_fresh_so, work_inside, slot_small, count_is}
use Rattle.dedupe_daemon.proofs.ItemAt.{item_spelled}
use Rattle.dedupe_daemon.proofs.BeginEnds.{front_rest}
use Rattle.dedupe_daemon.proofs.Begun.{waits_work}

same_front : (ws : List Work) (x y : Work) (xs ys : List Work) → ws ≡ x ∷ xs → ws ≡ y ∷ ys → x ≡ y
same_front ws x y xs ys there here = cc

no_front : (ws : List Work) (x : Work) (xs : List Work) → ws ≡ [] → ws ≡ x ∷ xs → ⊥
no_front ws x xs none some = cc

pub none_front : (ws : List Work) → slice_get ws 0 ≡ None → ws ≡ []
none_front [] is = refl
none_front (x ∷ xs) is = cc

module _ (d : Disk) (b b' : Parts) (s : State) (v : IsVolume d b s) (work : Work) (none_begun : b.sharing ≡ None)
    (stale : IsFreshWork b.inodes.items work → ⊥) (change : PopsStale work b b') (agree : Agree s.now s.past) where
  nodes_same : b'.inodes.items ≡ b.inodes.items
  nodes_same = ap (λ (ns : _). ns.items) change.inodes

  holds_on : (who ino : ℕ) → Holds b who ino → Holds b' who ino
  holds_on who ino (by_client f flies has) = by_client f (flies_still b b' (flights_same b b' change.kept) who f flies) has
  holds_on who ino (by_daemon x him is same) = by_daemon x him (change.sharing ∙ is) same
  holds_on who ino (by_cleaning c him is same) = by_cleaning c him (cleaning_same b b' change.kept ∙ is) same

  holds_back : (who ino : ℕ) → Holds b' who ino → Holds b who ino
  holds_back who ino (by_client f flies has) = by_client f (flies_before b b' (flights_same b b' change.kept) who f flies) has
  holds_back who ino (by_daemon x him is same) = by_daemon x him (sym change.sharing ∙ is) same
  holds_back who ino (by_cleaning c him is same) = by_cleaning c him (sym (cleaning_same b b' change.kept) ∙ is) same

  -- no place is mapped by it
  pub not_fresh : IsFresh d b work → ⊥
  not_fresh fresh = stale (found_fresh d b s v work fresh)

  pub stale_event : DaemonEvent [] d d b b' s s
  stale_event = record {
    fast = v.fast;
    leaves = leaves_same d s agree;
    live = λ i has. absurd (omega (arith, has.1));
    loose = λ q f flies i held has. absurd (omega (arith, has.1));
    apart = λ c at has. absurd (omega (arith, has.1));
    disk = disk_same d;
    kept = change.kept;
    inodes_are = subst (λ (ns : List InodeState). AreInodesOf d ns) (sym nodes_same) v.inodes;
    holders = record {
      told = λ ino who n at.
          let was = v.holders.told ino who n (ap (λ (ns : List InodeState). slice_get ns ino) (sym nodes_same) ∙ at) in
          ((λ holder. holds_on who ino (was.0 holder)), (λ holds. was.1 (holds_back who ino holds)));
      in_table = λ ino who holds. v.holders.in_table ino who (holds_back who ino holds);
    };
    queue = record { waits = λ ino idx m place undone. waits_still ino idx m place (v.queue.waits ino idx m place undone) };
    sharing = λ x is. absurd (none_some b.sharing x none_begun (sym change.sharing ∙ is));
    raises = λ slot. ap (λ (o : Option Sharing). times slot (raised_to_share o)) change.sharing;
    adds = λ slot. ap (λ (o : Option Sharing). times slot (added_to_share o)) change.sharing;
    room = room_kept b b' s s change.kept (record {
      units = let same = ap units_to_share change.sharing in omega (arith, same, change.units);
      changes = let same = ap changes_to_share change.sharing in omega (arith, same, change.trace);
      spare = omega (arith, v.room.units, change.units);
      trace = omega (arith, v.room.trace, change.trace);
      queue = omega (arith, change.queue.room);
    }) v.room (λ who f c y flies is at. v.room.places who f c y flies is (ap (λ (ns : List InodeState). slice_get ns f.ino) (sym nodes_same) ∙ at));
    still = still_same b b' s s (record { now = refl; past = refl; faults = refl })
        (λ q f flies. flies_still b b' (flights_same b b' change.kept) q f flies) v.still;
  }
    where
      waits_still : (ino idx : ℕ) (m : Mapping) → LivePlace d ino idx m → IsWaiting b ino m.slot → IsWaiting b' ino m.slot
      waits_still ino idx m place (is_begun x is of_ino of_slot) = absurd (none_some b.sharing x none_begun is)
      waits_still ino idx m place (in_queue w n has of_ino of_slot at round) = ⊎_elim
          (λ (front : work ≡ w). absurd (not_fresh (record {
            live = ap (λ (i : ℕ). (d.inode i).use_of) (ap (λ (x : Work). x.ino) front ∙ of_ino) ∙ place.live;
            kept = n;
            is_kept = ap (λ (i : ℕ). slice_get b.inodes.items i) (ap (λ (x : Work). x.ino) front ∙ of_ino) ∙ at;
            round = ap (λ (x : Work). x.round) front ∙ round;
            place = idx;
            by = m;
            mapped = ap (λ (i : ℕ). maps d i idx) (ap (λ (x : Work). x.ino) front ∙ of_ino) ∙ place.maps;
            by_item = sym (ap (λ (x : Work). x.slot) front ∙ of_slot);
          })))
          (λ (later : Contains b'.queue.items w). in_queue w n later of_ino of_slot (ap (λ (ns : List InodeState). slice_get ns ino) nodes_same ∙ at)
          round) (listed_cases work b'.queue.items w (subst (λ (ws : List Work). Contains ws w) change.queue.items has))

  pub stale_lowers : DaemonLowers b b' 0
  stale_lowers = record {
    left_is = sym (ap sharing_events (change.sharing ∙ none_begun));
    less =
        let queued = ap (λ (ws : List Work). length ws) change.queue.items in
        let same = ap (λ (o : Option Sharing). sharing_events o) change.sharing in
        omega (arith, queued, same);
    waiting = ap (λ (r : _). r.waiting) change.kept.reclaiming;
    pages = used_same b b' change.kept.free (cleaning_same b b' change.kept);
  }

  pub stale_work : MayWork (daemon_stand d b)
  stale_work = record {
    some = λ rests. no_front b.queue.items work b'.queue.items rests.none_waits change.queue.items;
    loose = λ holder held. not_fresh (subst (IsFresh d b) (same_front b.queue.items held.work work held.rest b'.queue.items held.front
        change.queue.items) held.fresh);
  }

module _ {D F : Type 0} (state : D → State) (w w' : Volume D F) (work : Work) (none_begun : w.parts.sharing ≡ None)
    (stale : IsFreshWork w.parts.inodes.items work → ⊥) (change : PopsStale work w.parts w'.parts)
    (agree : Agree (state w.device).now (state w.device).past) (print : Print) where
  pub stale_moves : (d : Disk) → IsVolume d w.parts (state w.device) → MovesOn state print 15 w (record w { parts = w'.parts }) d
  stale_moves d v = daemon_moves state print w (record w { parts = w'.parts }) d d v (shown_same print d w.parts (state w.device) v agree) []
      (stale_event d w.parts w'.parts (state w.device) v work none_begun stale change agree)

-- the front item, which isn't stale
module _ {D F : Type 0} (state : D → State) (w : Volume D F) (work : Work) (none_begun : w.parts.sharing ≡ None)
    (front : slice_get w.parts.queue.items 0 ≡ Some work) (fresh : IsFreshWork w.parts.inodes.items work) where
  module _ (node : InodeState) (is : node ≡ slice_index_or w.parts.inodes.items work.ino node) where
    pub node_there : slice_get w.parts.inodes.items work.ino ≡ Some node
    node_there = read_at w.parts.inodes.items work.ino node (inside_list w.parts.inodes.items work.ino fresh.node fresh.there) is

    pub held_up : (holder : ℕ) → node.holder ≡ Some holder → (d : Disk) → IsVolume d w.parts (state w.device) → IsHeldUp d w.parts holder
    held_up holder held d v =
        let waits = front_rest w.parts.queue.items work front in
        record {
          none_begun = none_begun;
          work = work;
          rest = waits.0;
          front = waits.1;
          fresh = is_fresh_so d w.parts (state w.device) v work (of_file d w.parts (state w.device) v work fresh);
          holds = (v.holders.told work.ino holder node node_there).0 held;
        }

    pub node_loose : node.holder ≡ None → (n : InodeState) → slice_get w.parts.inodes.items work.ino ≡ Some n → n.holder ≡ None
    node_loose none n at = ap (λ (x : InodeState). x.holder) (same_some (slice_get w.parts.inodes.items work.ino) n node at node_there) ∙ none

    pub loose_work : node.holder ≡ None → (d : Disk) → IsVolume d w.parts (state w.device) → MayWork (daemon_stand d w.parts)
    loose_work none d v = let waits = front_rest w.parts.queue.items work front in
        waits_work d w.parts work waits.0 waits.1 (λ holder holds. no_holder (node.holder) holder none
        ((v.holders.told work.ino holder node node_there).1 holds))
      where
        no_holder : (h : Option ℕ) (who : ℕ) → h ≡ None → h ≡ Some who → ⊥
        no_holder h who none some = cc

  module _ (agrees : Agrees state w) (running : w.parts.stopped ≡ false) where
    abbrev found : (d : Disk) × IsVolume d w.parts (state w.device)
    found = running_disk state w running agrees

    pub item_inside : 8 * work.slot + 8 ≤ length (state w.device).now
    item_inside = work_inside found.0 w.parts (state w.device) found.1 work (of_file found.0 w.parts (state w.device) found.1 work fresh)

    pub item_small : work.slot < 2 ^ 32
    item_small = slot_small found.0 w.parts (state w.device) found.1 work (of_file found.0 w.parts (state w.device) found.1 work fresh)

    pub item_few : (node : InodeState) → node ≡ slice_index_or w.parts.inodes.items work.ino node → node.holder ≡ None
        → (sharing : Sharing) → sharing ≡ item_at (state w.device).now work → sharing.count < 2 ^ 32
    item_few node is none sharing item =
        let of = of_file found.0 w.parts (state w.device) found.1 work fresh in
        let few = item_spelled found.0 found.1.fast.valid work.ino work.slot of.first of.n of.block of.size of.m.flag
        of.m.mask of.has in
        let same = ap (λ (x : Sharing). x.count) item ∙ count_is found.0 w.parts (state w.device) found.1 work of in
        omega (arith, few.1, same)

pub none_is_begun : (o : Option Sharing) → o ≡ None → IsSome o → ⊥
none_is_begun None none some = cc
none_is_begun (Some x) none some = cc
