-- The daemon's item is ended: the volume of after.
use Rattle.std.proofs.Common.{◌≡◌, ◌≢◌, inl, inr, ⊎_elim, ℕ, ◌+◌, ◌-◌, ◌<◌, ◌≤◌, [], ◌∷◌, length, refl, sym, ◌∙◌, ap, subst, arith}
use Rattle.std.specs.Prelude.{slice_get, Option, Some, None, Contains, ◌↔◌}
use Rattle.std.proofs.lemmas.Bool.{cases_eq}
use Rattle.pm_device.specs.State.{State}
use Rattle.pm_device.specs.Settled.{StoresOnly, KeepsFlushed, Others, SettlesAll}
use Rattle.pm_device.specs.Commit.{IsDone}
use Rattle.log_entry.specs.declared.item.Flag.TheVariants.{InProcess, Complete}
use Rattle.inode_log.specs.Reflags.{flag_word}
use Rattle.dn_model.specs.Log.{Log}
use Rattle.dn_model.specs.Maps.{Mapping}
use Rattle.dn_model.specs.Disk.{Disk, maps}
use Rattle.dn_model.specs.Own.{Print, IsOwn}
use Rattle.law_log_swap.specs.Relogged.{relogged}
use Rattle.law_flags.specs.FlagLaws.{IsDoneAt, flagged}
use Rattle.law_flags.proofs.Tags.{flag_own}
use Rattle.dn_volume.specs.declared.units.TheConstants.{END_UNITS}
use Rattle.dn_volume.specs.declared.background.Cleaning.{Cleaning}
use Rattle.dn_volume.specs.declared.background.Sharing.{Sharing}
use Rattle.dn_volume.specs.declared.background.SharingStep.{SharingStep}
use Rattle.dn_volume.specs.declared.background.SharingStep.TheVariants.{Look}
use Rattle.dn_volume.specs.declared.flight.Flight.{Flight}
use Rattle.dn_volume.specs.declared.volume.InodeState.{InodeState}
use Rattle.dn_volume.specs.declared.volume.Parts.{Parts}
use Rattle.dn_volume.specs.Parties.{Flies, Holds, by_client, by_daemon, by_cleaning}
use Rattle.dn_volume.specs.Inodes.{AreHolders}
use Rattle.dn_volume.specs.Balance.{times, raised_at, added_at, raised_to_share, added_to_share}
use Rattle.dn_volume.specs.Shares.{IsWaiting, in_queue, is_begun, IsQueued, IsBegun}
use Rattle.dn_volume.specs.Reserve.{units_spent, changes_spent, units_to_share, changes_to_share, HasRoom}
use Rattle.dn_volume.specs.Agrees.{IsVolume}
use Rattle.dn_volume.specs.Works.{DaemonLowers, sharing_events}
use Rattle.dn_volume.proofs.HandsKept.{flies_before, flies_still}
use Rattle.dn_volume.proofs.Stills.{still_settles}
use Rattle.count_events.proofs.Settled.{no_client}
use Rattle.dedupe_daemon.specs.Daemon.{EndsItem}
use Rattle.count_events.proofs.UsedPages.{used_same}
use Rattle.dedupe_daemon.proofs.DaemonEvent.{DaemonEvent, flights_same, cleaning_same, others_kept}
use Rattle.dedupe_daemon.proofs.DaemonRoom.{room_kept}
use Rattle.dedupe_daemon.proofs.Holding.{held_once, was_held, round_on, room_on, inodes_on}
use Rattle.dedupe_daemon.proofs.ItemAt.{places_of}
use Rattle.dedupe_daemon.proofs.RelogDisk.{IsRetagged, disk_kept, it_lives, only_it, place_was, inodes_kept, tag_leaves, tag_fast}
use Rattle.dedupe_daemon.proofs.FlagDisk.{flag_log, may_flag, flag_retags, flag_bits, flag_here, flag_there}
use Rattle.dedupe_daemon.proofs.Passed.{one_item, none_some, events_some}
use Rattle.dedupe_daemon.proofs.PassEnds.{begun_write}

no_holder : (h : Option ℕ) (who : ℕ) → h ≡ None → h ≡ Some who → ⊥
no_holder h who none some = cc

module _ (d : Disk) (b : Parts) (s : State) (v : IsVolume d b s) (sharing : Sharing) (begun_is : b.sharing ≡ Some sharing) (look : sharing.step ≡
    Look)
    (all_done : sharing.count ≤ sharing.done) where
  abbrev pub begun : IsBegun d sharing
  begun = (v.sharing sharing begun_is).begun

  abbrev ino : ℕ
  ino = sharing.work.ino

  abbrev slot : ℕ
  slot = sharing.work.slot

  abbrev pub log : Log
  log = flag_log d v.fast.valid ino slot sharing.first sharing.count begun.block begun.size InProcess begun.mask (begun_write d sharing begun)
      Complete

  abbrev e : Disk
  e = relogged d ino log

  pub places_done : IsDoneAt d ino slot
  places_done idx m mapped by =
      let of = places_of d v.fast.valid ino slot sharing.first sharing.count begun.block begun.size InProcess begun.mask (begun_write d sharing begun)
      idx m mapped by in
      let at : sharing.first + (idx - sharing.first) ≡ idx = omega (arith, of.low) in
      begun.done_so (idx - sharing.first) m (omega (arith, of.low, of.high, all_done))
      (subst (λ (j : ℕ). maps d ino j ≡ Some m) (sym at) mapped) by

  pub end_own : (print : Print) → IsOwn print d → IsOwn print e
  end_own print = flag_own d ino Complete slot log (may_flag d v.fast.valid ino slot sharing.first sharing.count begun.block begun.size InProcess
      begun.mask (begun_write d sharing begun) Complete) print (λ complete. places_done)

  pub end_retags : IsRetagged d ino log (flag_word slot) 3 (flagged slot Complete)
  end_retags = flag_retags d v.fast.valid ino slot sharing.first sharing.count begun.block begun.size InProcess begun.mask
      (begun_write d sharing begun) Complete

  pub ino_inside : ino < length b.inodes.items
  ino_inside = omega (arith, begun.in_table, v.inodes.all)

  pub end_owed : END_UNITS ≤ b.owed.units
  end_owed =
      let here = ap units_to_share begun_is in
      let spent = ap units_spent look in
      omega (arith, v.room.owes.units, here, spent)

  daemon_holds : Holds b 15 ino
  daemon_holds = by_daemon sharing refl begun_is refl

  not_client : (q : ℕ) (f : Flight) → Flies b q f → Contains f.held.items ino → ⊥
  not_client q f flies held = no_client b q f v.flights.clients
      (omega (arith, held_once d b v.holders ino ino_inside q 15 (by_client f flies held) daemon_holds)) flies

  not_cleaned : (c : Cleaning) → b.reclaiming.cleaning ≡ Some c → c.ino ≢ ino
  not_cleaned c at same =
      let one = held_once d b v.holders ino ino_inside 16 15 (by_cleaning c refl at same) daemon_holds in
      omega (arith, one)

  module _ (b' : Parts) (change : EndsItem ino b b') where
    -- who holds inodes then
    holds_on : (i who : ℕ) → i ≢ ino → Holds b who i → Holds b' who i
    holds_on i who ne (by_client f flies held) = by_client f (flies_still b b' (flights_same b b' change.kept) who f flies) held
    holds_on i who ne (by_daemon item him is same) =
        absurd (ne (sym same ∙ ap (λ (x : Sharing). x.work.ino) (one_item b.sharing item sharing is begun_is)))
    holds_on i who ne (by_cleaning c him is same) = by_cleaning c him (cleaning_same b b' change.kept ∙ is) same

    holds_back : (i who : ℕ) → Holds b' who i → Holds b who i
    holds_back i who (by_client f flies held) = by_client f (flies_before b b' (flights_same b b' change.kept) who f flies) held
    holds_back i who (by_daemon item him is same) = absurd (none_some b'.sharing item change.ended is)
    holds_back i who (by_cleaning c him is same) = by_cleaning c him (sym (cleaning_same b b' change.kept) ∙ is) same

    none_holds : (who : ℕ) → Holds b' who ino → ⊥
    none_holds who (by_client f flies held) = not_client who f (flies_before b b' (flights_same b b' change.kept) who f flies) held
    none_holds who (by_daemon item him is same) = absurd (none_some b'.sharing item change.ended is)
    none_holds who (by_cleaning c him is same) = not_cleaned c (sym (cleaning_same b b' change.kept) ∙ is) same

    told_after : (i who : ℕ) (n : InodeState) → slice_get b'.inodes.items i ≡ Some n → (n.holder ≡ Some who) ↔ Holds b' who i
    told_after i who n at = elim (cases_eq i ino) [
      | inl same ↦
          let was = was_held None ino b.inodes.items b'.inodes.items change.inodes ino_inside n (ap (slice_get b'.inodes.items) (sym same) ∙ at) in (
            (λ holder. absurd (no_holder n.holder who was.2.holder_is holder)),
            (λ holds. absurd (none_holds who (subst (Holds b' who) same holds))),
          )
      | inr ne ↦
          let told = v.holders.told i who n (sym (change.inodes.others i ne) ∙ at) in
          ((λ holder. holds_on i who ne (told.0 holder)), (λ holds. told.1 (holds_back i who holds)))
    ]

    holders_after : AreHolders e b'
    holders_after = record {
      told = told_after;
      in_table = λ i who holds. subst (λ g. i < g.inodes) (sym (end_retags.one.geometry)) (v.holders.in_table i who (holds_back i who holds));
    }

    -- what waits
    waits_on : (i at : ℕ) → ((i ≡ ino) → (at ≡ slot) → ⊥) → IsWaiting b i at → IsWaiting b' i at
    waits_on i at other (in_queue work n has of_ino of_slot there round) =
        let now = round_on None ino b.inodes.items b'.inodes.items change.inodes ino_inside i n there in
        in_queue work now.0 (subst (λ (q : _). Contains q.items work) (sym change.queue) has) of_ino of_slot now.1 (round ∙ sym now.2)
    waits_on i at other (is_begun item is of_ino of_slot) =
        let same = one_item b.sharing sharing item begun_is is in
        absurd (other (sym (ap (λ (x : Sharing). x.work.ino) same ∙ of_ino)) (sym (ap (λ (x : Sharing). x.work.slot) same ∙ of_slot)))

    queue_after : IsQueued e b'
    queue_after = record {
      waits = λ i idx m place undone.
          let was = place_was d ino log (flag_word slot) 3 (flagged slot Complete) end_retags i idx m place in
          ⊎_elim
          (λ here.
          let bits = flag_bits slot Complete was.0 in
          let slots : m.slot ≡ was.0.slot = ap (λ (x : Mapping). x.slot) here.1 ∙ bits.2 in
          elim (cases_eq was.0.slot slot) [
            | inl by ↦ absurd (undone (ap (λ (x : Mapping). x.flag) here.1 ∙ flag_here slot Complete was.0 by))
            | inr ne ↦
                let same : m ≡ was.0 = here.1 ∙ flag_there slot Complete was.0 ne in
                subst (IsWaiting b' i) (sym slots) (waits_on i was.0.slot (λ a by. ne by)
                (v.queue.waits i idx was.0 was.1 (λ complete. undone (ap (λ (x : Mapping). x.flag) same ∙ complete))))
          ])
          (λ there. subst (IsWaiting b' i) (ap (λ (x : Mapping). x.slot) (sym there.1)) (waits_on i was.0.slot (λ same by. there.0 same)
          (v.queue.waits i idx was.0 was.1 (λ complete. undone (ap (λ (x : Mapping). x.flag) there.1 ∙ complete))))) was.2;
    }

    none_raised : (at : ℕ) → times at (raised_to_share b'.sharing) ≡ times at (raised_to_share b.sharing)
    none_raised at = ap (λ (o : Option Sharing). times at (raised_to_share o)) change.ended ∙ sym
        (ap (λ (o : Option Sharing). times at (raised_to_share o)) begun_is ∙ ap (λ (x : SharingStep). times at (raised_at x)) look)

    none_added : (at : ℕ) → times at (added_to_share b'.sharing) ≡ times at (added_to_share b.sharing)
    none_added at = ap (λ (o : Option Sharing). times at (added_to_share o)) change.ended ∙ sym
        (ap (λ (o : Option Sharing). times at (added_to_share o)) begun_is ∙ ap (λ (x : SharingStep). times at (added_at x)) look)

    pub end_lowers : DaemonLowers b b' 0
    end_lowers = record {
      left_is = sym (ap sharing_events change.ended);
      less =
          let queued = ap (λ (q : _). length q.items) change.queue in
          let before = ap (λ (o : Option Sharing). sharing_events o) begun_is in
          let after = ap (λ (o : Option Sharing). sharing_events o) change.ended in
          let some = some_left in
          omega (arith, queued, before, after, some);
      waiting = ap (λ (r : _). r.waiting) change.kept.reclaiming;
      pages = used_same b b' change.kept.free (cleaning_same b b' change.kept);
    }
      where
        some_left : 1 ≤ sharing_events (Some sharing)
        some_left = events_some sharing

    module _ (u : State) (only : StoresOnly (λ a. a ≡ flag_word slot) s u) (others : KeepsFlushed (Others 15) (λ a. a ≡ flag_word slot) s u)
        (done : IsDone 15 (flag_word slot) 3 s u) (settles : SettlesAll 15 s u) (spare : s.spare ≤ u.spare + 3) where
      room_after : HasRoom b' u
      room_after = room_kept b b' s u change.kept (record {
        units =
            let was = ap units_to_share begun_is in
            let now = ap units_to_share change.ended in
            let spent = ap units_spent look in
            omega (arith, was, now, spent, all_done, change.units);
        changes =
            let was = ap changes_to_share begun_is in
            let now = ap changes_to_share change.ended in
            let spent = ap changes_spent look in
            omega (arith, was, now, spent, all_done, change.trace);
        spare = omega (arith, v.room.units, change.units, spare);
        trace = omega (arith, v.room.trace, change.trace);
        queue = let same = ap (λ (q : _). q.room) change.queue in omega (arith, same);
      }) v.room (room_on None ino b.inodes.items b'.inodes.items change.inodes ino_inside b s v.room refl)

      pub end_event : DaemonEvent (ino ∷ []) d e b b' s u
      end_event = record {
        fast = tag_fast d ino log (flag_word slot) 3 (flagged slot Complete) end_retags s u b.geometry v.fast only done;
        leaves = tag_leaves d ino log (flag_word slot) 3 (flagged slot Complete) end_retags s u b.geometry v.fast only others;
        live = it_lives d ino log (flag_word slot) 3 (flagged slot Complete) end_retags;
        loose = λ q f flies i held has. not_client q f flies
            (subst (Contains f.held.items) (only_it d ino log (flag_word slot) 3 (flagged slot Complete) end_retags i has) held);
        apart = λ c at has. not_cleaned c at (only_it d ino log (flag_word slot) 3 (flagged slot Complete) end_retags c.ino has);
        disk = disk_kept d ino log (flag_word slot) 3 (flagged slot Complete) end_retags;
        kept = change.kept;
        inodes_are = inodes_on None ino b.inodes.items b'.inodes.items change.inodes ino_inside e
            (inodes_kept d ino log (flag_word slot) 3 (flagged slot Complete) end_retags b.inodes.items v.inodes);
        holders = holders_after;
        queue = queue_after;
        sharing = λ x is. absurd (none_some b'.sharing x change.ended is);
        raises = none_raised;
        adds = none_added;
        room = room_after;
        still = still_settles 15 b b' s u settles (others_kept b b' change.kept) v.still;
      }
