-- The daemon's item is begun: the volume of after.
use Rattle.std.proofs.Common.{◌≡◌, ◌≢◌, inl, inr, ⊎_elim, ℕ, ◌+◌, ◌*◌, ◌<◌, ◌≤◌, List, [], ◌∷◌, length, refl, sym, ◌∙◌, ap, subst, arith}
use Rattle.std.specs.Prelude.{vec_len, vec_capacity, slice_get, Option, Some, None, Contains, ◌↔◌}
use Rattle.std.proofs.lemmas.Bool.{cases_eq}
use Rattle.std.proofs.lemmas.Bool.Decides.{nat_tests}
use Rattle.pm_device.specs.State.{State}
use Rattle.pm_device.specs.Settled.{StoresOnly, KeepsFlushed, Others, SettlesAll}
use Rattle.pm_device.specs.Commit.{IsDone}
use Rattle.log_entry.specs.declared.item.Flag.TheVariants.{InProcess}
use Rattle.log_entry.specs.declared.item.LogItem.TheVariants.{Write}
use Rattle.inode_log.specs.Reflags.{with_flag, flag_word}
use Rattle.dedupe_queue.specs.declared.Work.{Work}
use Rattle.dn_model.specs.Log.{Log, placed}
use Rattle.dn_model.specs.Maps.{Mapping}
use Rattle.dn_model.specs.Disk.{Disk}
use Rattle.dn_model.specs.Own.{Print, IsOwn}
use Rattle.law_log_swap.specs.Relogged.{relogged}
use Rattle.law_log_swap.proofs.Relogged.{log_here, use_same}
use Rattle.law_flags.specs.FlagLaws.{flagged}
use Rattle.law_flags.proofs.Tags.{flag_own}
use Rattle.law_table.proofs.Rows.{listed_cases}
use Rattle.dn_volume.specs.declared.background.Sharing.{Sharing}
use Rattle.dn_volume.specs.declared.background.SharingStep.TheVariants.{Look}
use Rattle.dn_volume.specs.declared.volume.InodeState.{InodeState}
use Rattle.dn_volume.specs.declared.volume.Parts.{Parts}
use Rattle.dn_volume.specs.Parties.{Holds, by_client, by_daemon, by_cleaning}
use Rattle.dn_volume.specs.Inodes.{AreHolders}
use Rattle.dn_volume.specs.Balance.{times, raised_at, added_at, raised_to_share, added_to_share}
use Rattle.dn_volume.specs.Shares.{IsAtStep, IsWaiting, in_queue, is_begun, IsQueued, IsBegun, IsSharing, Shares}
use Rattle.dn_volume.specs.Reserve.{units_spent, changes_spent, units_to_share, changes_to_share, HasRoom}
use Rattle.dn_volume.specs.Agrees.{IsVolume}
use Rattle.dn_volume.specs.Works.{DaemonLowers, step_events, sharing_events, daemon_stand, MayWork}
use Rattle.dn_volume.proofs.HandsKept.{flies_before, flies_still}
use Rattle.dn_volume.proofs.Stills.{still_settles}
use Rattle.dedupe_daemon.specs.Daemon.{BeginsItem}
use Rattle.dedupe_daemon.specs.Fronts.{item_at}
use Rattle.count_events.proofs.UsedPages.{used_same}
use Rattle.dedupe_daemon.proofs.DaemonEvent.{DaemonEvent, flights_same, cleaning_same, others_kept}
use Rattle.dedupe_daemon.proofs.DaemonRoom.{room_kept}
use Rattle.dedupe_daemon.proofs.Holding.{was_held, round_on, room_on, inodes_on}
use Rattle.dedupe_daemon.proofs.ItemAt.{item_spelled, placed_change}
use Rattle.dedupe_daemon.proofs.RelogDisk.{IsRetagged, disk_kept, it_lives, only_it, place_was, inodes_kept, tag_leaves, tag_fast}
use Rattle.dedupe_daemon.proofs.FlagDisk.{flag_log, may_flag, flag_retags, flag_bits, flag_there}
use Rattle.dedupe_daemon.proofs.Passed.{one_item, none_some}
use Rattle.dedupe_daemon.proofs.Fronts.{IsOfFile, first_is, count_is, is_file}

no_holder : (h : Option ℕ) (who : ℕ) → h ≡ None → h ≡ Some who → ⊥
no_holder h who none some = cc

one_who : (h : Option ℕ) (p q : ℕ) → h ≡ Some p → h ≡ Some q → p ≡ q
one_who h p q there here = cc

-- an item that waits is work
pub waits_work : (d : Disk) (b : Parts) (work : Work) (rest : List Work) → b.queue.items ≡ work ∷ rest
    → ((holder : ℕ) → Holds b holder work.ino → ⊥) → MayWork (daemon_stand d b)
waits_work d b work rest queued loose = record {
  some = λ rests. empty_or (b.queue.items) work rest rests.none_waits queued;
  loose = λ holder held. loose holder (subst (λ (w : Work). Holds b holder w.ino)
      (same_front b.queue.items held.work work held.rest rest held.front queued) held.holds);
}
  where
    empty_or : (ws : List Work) (w : Work) (more : List Work) → ws ≡ [] → ws ≡ w ∷ more → ⊥
    empty_or ws w more none some = cc

    same_front : (ws : List Work) (x y : Work) (xs ys : List Work) → ws ≡ x ∷ xs → ws ≡ y ∷ ys → x ≡ y
    same_front ws x y xs ys there here = cc

module _ (d : Disk) (b : Parts) (s : State) (v : IsVolume d b s) (sharing : Sharing) (none_begun : b.sharing ≡ None)
    (of : IsOfFile d b sharing.work) (item : sharing ≡ item_at s.now sharing.work)
    (loose : (n : InodeState) → slice_get b.inodes.items sharing.work.ino ≡ Some n → n.holder ≡ None) where
  abbrev ino : ℕ
  ino = sharing.work.ino

  abbrev slot : ℕ
  slot = sharing.work.slot

  abbrev pub log : Log
  log = flag_log d v.fast.valid ino slot of.first of.n of.block of.size of.m.flag of.m.mask of.has InProcess

  abbrev e : Disk
  e = relogged d ino log

  pub begin_retags : IsRetagged d ino log (flag_word slot) 2 (flagged slot InProcess)
  begin_retags = flag_retags d v.fast.valid ino slot of.first of.n of.block of.size of.m.flag of.m.mask of.has InProcess

  pub begin_own : (print : Print) → IsOwn print d → IsOwn print e
  begin_own print = flag_own d ino InProcess slot log
      (may_flag d v.fast.valid ino slot of.first of.n of.block of.size of.m.flag of.m.mask of.has InProcess) print (λ complete. cc)

  first_same : sharing.first ≡ of.first
  first_same = ap (λ (x : Sharing). x.first) item ∙ first_is d b s v sharing.work of

  pub count_same : sharing.count ≡ of.n
  count_same = ap (λ (x : Sharing). x.count) item ∙ count_is d b s v sharing.work of

  none_done : sharing.done ≡ 0
  none_done = ap (λ (x : Sharing). x.done) item

  looks : sharing.step ≡ Look
  looks = ap (λ (x : Sharing). x.step) item

  pub count_some : (1 ≤ sharing.count) × (sharing.count ≤ 17)
  count_some =
      let few = item_spelled d v.fast.valid ino slot of.first of.n of.block of.size of.m.flag of.m.mask of.has in
      (omega (arith, few.0, count_same), omega (arith, few.1, count_same))

  pub ino_inside : ino < length b.inodes.items
  ino_inside = omega (arith, of.in_table, v.inodes.all)

  pub nobody_holds : (who : ℕ) → Holds b who ino → ⊥
  nobody_holds who holds = no_holder of.node.holder who (loose of.node of.there) ((v.holders.told ino who of.node of.there).1 holds)

  module _ (b' : Parts) (change : BeginsItem sharing b b') where
    holds_on : (i who : ℕ) → Holds b who i → Holds b' who i
    holds_on i who (by_client f flies held) = by_client f (flies_still b b' (flights_same b b' change.kept) who f flies) held
    holds_on i who (by_daemon x him is same) = absurd (none_some b.sharing x none_begun is)
    holds_on i who (by_cleaning c him is same) = by_cleaning c him (cleaning_same b b' change.kept ∙ is) same

    holds_back : (i who : ℕ) → i ≢ ino → Holds b' who i → Holds b who i
    holds_back i who ne (by_client f flies held) = by_client f (flies_before b b' (flights_same b b' change.kept) who f flies) held
    holds_back i who ne (by_daemon x him is same) =
        absurd (ne (sym same ∙ ap (λ (y : Sharing). y.work.ino) (one_item b'.sharing x sharing is change.begun)))
    holds_back i who ne (by_cleaning c him is same) = by_cleaning c him (sym (cleaning_same b b' change.kept) ∙ is) same

    holds_it : (who : ℕ) → Holds b' who ino → who ≡ 15
    holds_it who (by_client f flies held) = absurd (nobody_holds who (by_client f (flies_before b b' (flights_same b b' change.kept) who f flies)
        held))
    holds_it who (by_daemon x him is same) = him
    holds_it who (by_cleaning c him is same) = absurd (nobody_holds who (by_cleaning c him (sym (cleaning_same b b' change.kept) ∙ is) same))

    told_after : (i who : ℕ) (n : InodeState) → slice_get b'.inodes.items i ≡ Some n → (n.holder ≡ Some who) ↔ Holds b' who i
    told_after i who n at = elim (cases_eq i ino) [
      | inl same ↦
          let was = was_held (Some 15) ino b.inodes.items b'.inodes.items change.inodes ino_inside n (ap (slice_get b'.inodes.items) (sym same) ∙ at)
          in (
            (λ holder. by_daemon sharing (one_who n.holder who 15 holder was.2.holder_is) change.begun (sym same)),
            (λ holds. was.2.holder_is ∙ ap Some (sym (holds_it who (subst (Holds b' who) same holds)))),
          )
      | inr ne ↦
          let told = v.holders.told i who n (sym (change.inodes.others i ne) ∙ at) in
          ((λ holder. holds_on i who (told.0 holder)), (λ holds. told.1 (holds_back i who ne holds)))
    ]

    in_table : (i who : ℕ) → Holds b' who i → i < e.geometry.inodes
    in_table i who holds = subst (λ g. i < g.inodes) (sym begin_retags.one.geometry) (elim (cases_eq i ino) [
      | inl same ↦ subst (λ (j : ℕ). j < d.geometry.inodes) (sym same) of.in_table
      | inr ne ↦ v.holders.in_table i who (holds_back i who ne holds)
    ])

    holders_after : AreHolders e b'
    holders_after = record { told = told_after; in_table = in_table }

    -- what waits
    waits_on : (i at : ℕ) → IsWaiting b i at → IsWaiting b' i at
    waits_on i at (is_begun x is of_ino of_slot) = absurd (none_some b.sharing x none_begun is)
    waits_on i at (in_queue work n has of_ino of_slot there round) = ⊎_elim
        (λ (front : sharing.work ≡ work). is_begun sharing change.begun (ap (λ (w : Work). w.ino) front ∙ of_ino) (ap (λ (w : Work). w.slot) front ∙
        of_slot))
        (λ (later : Contains b'.queue.items work).
        let now = round_on (Some 15) ino b.inodes.items b'.inodes.items change.inodes ino_inside i n there in
        in_queue work now.0 later of_ino of_slot now.1 (round ∙ sym now.2))
        (listed_cases sharing.work b'.queue.items work (subst (λ (ws : List Work). Contains ws work) change.queue.items has))

    queue_after : IsQueued e b'
    queue_after = record {
      waits = λ i idx m place undone.
          let was = place_was d ino log (flag_word slot) 2 (flagged slot InProcess) begin_retags i idx m place in
          ⊎_elim
          (λ here.
          let slots : m.slot ≡ was.0.slot = ap (λ (x : Mapping). x.slot) here.1 ∙ (flag_bits slot InProcess was.0).2 in
          elim (cases_eq was.0.slot slot) [
            | inl by ↦ is_begun sharing change.begun (sym here.0) (sym (slots ∙ by))
            | inr ne ↦
                let same : m ≡ was.0 = here.1 ∙ flag_there slot InProcess was.0 ne in
                subst (IsWaiting b' i) (sym slots) (waits_on i was.0.slot (v.queue.waits i idx was.0 was.1
                (λ complete. undone (ap (λ (x : Mapping). x.flag) same ∙ complete))))
          ])
          (λ there. subst (IsWaiting b' i) (ap (λ (x : Mapping). x.slot) (sym there.1)) (waits_on i was.0.slot
          (v.queue.waits i idx was.0 was.1 (λ complete. undone (ap (λ (x : Mapping). x.flag) there.1 ∙ complete))))) was.2;
    }

    -- the item
    begun_now : IsBegun e sharing
    begun_now = record {
      file = is_file d b s v sharing.work of;
      in_table = subst (λ g. ino < g.inodes) (sym begin_retags.one.geometry) of.in_table;
      live = use_same d ino log ino ∙ of.live;
      block = of.block;
      size = of.size;
      mask = of.m.mask;
      item = subst (λ (l : Log). Contains (placed l) (record {
        slot = slot;
        item = Write sharing.first sharing.count of.block of.size InProcess
            of.m.mask;
      })) (sym (log_here d ino log))
          (subst (λ (f : ℕ). Contains (placed log) (record { slot = slot; item = Write f sharing.count of.block of.size InProcess of.m.mask }))
          (sym first_same) (subst (λ (n : ℕ). Contains (placed log)
          (record { slot = slot; item = Write of.first n of.block of.size InProcess of.m.mask })) (sym count_same)
          (placed_change d v.fast.valid ino slot of.first of.n of.block of.size of.m.flag of.m.mask of.has
          (with_flag InProcess))));
      done_few = omega (arith, none_done);
      done_so = λ i m lt mapped by. absurd (omega (arith, lt, none_done));
    }

    shares : Shares e b'
    shares x is = subst (IsSharing e) (one_item b'.sharing sharing x change.begun is) (record {
      begun = begun_now;
      step = subst (λ st. IsAtStep e sharing st) (sym looks) begun_now.done_few;
    })

    none_raised : (at : ℕ) → times at (raised_to_share b'.sharing) ≡ times at (raised_to_share b.sharing)
    none_raised at = ap (λ (o : Option Sharing). times at (raised_to_share o)) change.begun ∙ ap
        (λ st. times at (raised_at st)) looks ∙ sym
        (ap (λ (o : Option Sharing). times at (raised_to_share o)) none_begun)

    none_added : (at : ℕ) → times at (added_to_share b'.sharing) ≡ times at (added_to_share b.sharing)
    none_added at = ap (λ (o : Option Sharing). times at (added_to_share o)) change.begun ∙ ap
        (λ st. times at (added_at st)) looks ∙ sym
        (ap (λ (o : Option Sharing). times at (added_to_share o)) none_begun)

    events_now : sharing_events b'.sharing ≡ 3 * sharing.count + 1
    events_now =
        ap sharing_events change.begun ∙ first_events sharing (count_some).0 none_done looks
      where
        first_events : (x : Sharing) → 1 ≤ x.count → x.done ≡ 0 → x.step ≡ Look → sharing_events (Some x) ≡ 3 * x.count + 1
        first_events x some none look = let step = ap step_events look in grind (arith, nat_tests, some, none, step)

    pub begin_lowers : DaemonLowers b b' (3 * sharing.count + 1)
    begin_lowers = record {
      left_is = sym events_now;
      less =
          let queued = ap (λ (ws : List Work). length ws) change.queue.items in
          let before = ap (λ (o : Option Sharing). sharing_events o) none_begun in
          omega (arith, queued, before, events_now, (count_some).1);
      waiting = ap (λ (r : _). r.waiting) change.kept.reclaiming;
      pages = used_same b b' change.kept.free (cleaning_same b b' change.kept);
    }

    module _ (u : State) (only : StoresOnly (λ a. a ≡ flag_word slot) s u) (others : KeepsFlushed (Others 15) (λ a. a ≡ flag_word slot) s u)
        (done : IsDone 15 (flag_word slot) 2 s u) (settles : SettlesAll 15 s u) (spare : b'.owed.units ≤ u.spare)
        (trace : vec_len b.trace + b'.owed.trace ≤ vec_capacity b.trace) where
      room_after : HasRoom b' u
      room_after = room_kept b b' s u change.kept (record {
        units =
            let was = ap units_to_share none_begun in
            let now = ap units_to_share change.begun in
            let spent = ap units_spent looks in
            omega (arith, was, now, spent, none_done, change.units);
        changes =
            let was = ap changes_to_share none_begun in
            let now = ap changes_to_share change.begun in
            let spent = ap changes_spent looks in
            omega (arith, was, now, spent, none_done, change.trace);
        spare = spare;
        trace = trace;
        queue = omega (arith, change.queue.room);
      }) v.room (room_on (Some 15) ino b.inodes.items b'.inodes.items change.inodes ino_inside b s v.room refl)

      pub begin_event : DaemonEvent (ino ∷ []) d e b b' s u
      begin_event = record {
        fast = tag_fast d ino log (flag_word slot) 2 (flagged slot InProcess) begin_retags s u b.geometry v.fast only done;
        leaves = tag_leaves d ino log (flag_word slot) 2 (flagged slot InProcess) begin_retags s u b.geometry v.fast only others;
        live = it_lives d ino log (flag_word slot) 2 (flagged slot InProcess) begin_retags;
        loose = λ q f flies i held has. nobody_holds q (by_client f flies
            (subst (Contains f.held.items) (only_it d ino log (flag_word slot) 2 (flagged slot InProcess) begin_retags i has) held));
        apart = λ c at has. nobody_holds 16 (by_cleaning c refl at
            (only_it d ino log (flag_word slot) 2 (flagged slot InProcess) begin_retags c.ino has));
        disk = disk_kept d ino log (flag_word slot) 2 (flagged slot InProcess) begin_retags;
        kept = change.kept;
        inodes_are = inodes_on (Some 15) ino b.inodes.items b'.inodes.items change.inodes ino_inside e
            (inodes_kept d ino log (flag_word slot) 2 (flagged slot InProcess) begin_retags b.inodes.items v.inodes);
        holders = holders_after;
        queue = queue_after;
        sharing = shares;
        raises = none_raised;
        adds = none_added;
        room = room_after;
        still = still_settles 15 b b' s u settles (others_kept b b' change.kept) v.still;
      }
