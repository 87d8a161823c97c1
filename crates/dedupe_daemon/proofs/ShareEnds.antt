-- The event of a place that comes to share a page, from what its calls give.
use Rattle.std.proofs.Common.{
  ◌≡◌,
  inl,
  ℕ,
  zero,
  suc,
  ◌+◌,
  ◌-◌,
  ◌*◌,
  ◌/◌,
  ◌^◌,
  ◌<◌,
  ◌≤◌,
  Bool,
  true,
  false,
  List,
  [],
  ◌∷◌,
  length,
  refl,
  sym,
  ◌∙◌,
  ap,
  subst,
  arith,
}
use Rattle.std.specs.Prelude.{Option, Some, None, IfSome, IsSome, Contains, slice_get, slice_index, nat_lt, if◌then◌else◌}
use Rattle.std.specs.FinMap.{get}
use Rattle.std.proofs.lemmas.Bool.Decides.{nat_tests}
use Rattle.std.proofs.lemmas.List.{append-nil}
use Rattle.pm_device.specs.State.{State, Rose}
use Rattle.pm_device.specs.Settled.{LeavesOnly, SettlesAll}
use Rattle.page_alloc.specs.Free.{FreePages}
use Rattle.file_index.specs.declared.page_map.Mapping.{Mapping as KeptMapping}
use Rattle.dn_model.specs.Log.{IsPaged, count, tail_at}
use Rattle.dn_model.specs.Table.{Row}
use Rattle.dn_model.specs.Disk.{Disk}
use Rattle.dn_model.specs.Files.{files, IsSameFiles}
use Rattle.dn_model.specs.Own.{Print, IsOwn}
use Rattle.law_write.proofs.Unread.{read_in_data}
use Rattle.law_share.specs.Sharing.{MayShare, shared_disk}
use Rattle.law_share.proofs.Shared.{keeps_files, own_kept}
use Rattle.dn_volume.specs.declared.units.TheConstants.{REMAP_UNITS}
use Rattle.dn_volume.specs.declared.background.Sharing.{Sharing}
use Rattle.dn_volume.specs.declared.background.SharingStep.{SharingStep}
use Rattle.dn_volume.specs.declared.background.SharingStep.TheVariants.{Remap}
use Rattle.dn_volume.specs.declared.volume.InodeState.{InodeState}
use Rattle.dn_volume.specs.declared.volume.Parts.{Parts}
use Rattle.dn_volume.specs.declared.volume.Volume.{Volume}
use Rattle.dn_volume.specs.Agrees.{IsVolume, Agrees, agrees_with, is_stopped}
use Rattle.dn_volume.specs.Events.{IsBetween, MovesOn, Breaks, word_in}
use Rattle.dn_volume.specs.Rely.{IsWordOf, of_journal, of_table, of_inode, of_log, of_page}
use Rattle.dn_volume.specs.Works.{MayWork, DaemonLowers, daemon_stand, sharing_events, step_events}
use Rattle.dn_volume.proofs.Between.{old_or_new}
use Rattle.dn_volume.proofs.Kept.{ops_same}
use Rattle.dn_volume.proofs.Owned.{in_data, regions}
use Rattle.dn_volume.proofs.Tables.{running_disk}
use Rattle.count_events.specs.Released.{Stops}
use Rattle.count_events.proofs.UsedPages.{used_less}
use Rattle.reclaim.proofs.LogWalk.{log_few}
use Rattle.dedupe_daemon.specs.declared.remap.NewPlace.{NewPlace}
use Rattle.dedupe_daemon.specs.Remapped.{
  IsNewPlace,
  taken_pages,
  TakesFor,
  IsItemSlot,
  IsReadyToShare,
  CanShare,
  SharesBetween,
  SharesNew,
  SharesThere,
  SharesOnly,
  IsShareWord,
  RemapsPart,
}
use Rattle.dedupe_daemon.proofs.Broken.{stopped_after, breaks_at}
use Rattle.dedupe_daemon.proofs.ItemFew.{item_few}
use Rattle.dedupe_daemon.proofs.ShareTaken.{AreTaken}
use Rattle.dedupe_daemon.proofs.ShareAppended.{share_used}
use Rattle.dedupe_daemon.proofs.PlaceFound.{
  to_remap,
  idx_small,
  node_there,
  ino_in,
  kept_at,
  remap_owes,
  remap_spare,
  was_mapped,
  not_was,
  taken,
  fresh_unused,
  may_share,
}
use Rattle.dedupe_daemon.proofs.ShareDisk as disk
use Rattle.dedupe_daemon.proofs.ShareEvent.{remap_others, remap_volume}

-- no word of the event is the head's
module _ (d : Disk) (ino idx : ℕ) (row : Row) (fresh : List ℕ) (may : MayShare d ino idx row fresh) where
  high_word : (a : ℕ) → a < 4 → IsWordOf (ino ∷ []) fresh d a → ⊥
  high_word a low (of_journal here) = omega (arith, low, here.0)
  high_word a low (of_table here) = omega (arith, low, here.0)
  high_word a low (of_inode i has lt here) = omega (arith, low, here.0)
  high_word a low (of_log i page has lt used listed here) =
      let page_in = (in_data d may.valid i page lt used listed).low in
      let far = (regions d.geometry may.valid.accepted).0 in omega (arith, low, here.0, page_in, far)
  high_word a low (of_page page has here) =
      let page_in = (may.fresh_unused page has).free.data_page.low in
      let far = (regions d.geometry may.valid.accepted).0 in omega (arith, low, here.0, page_in, far)

  pub share_high : (a : ℕ) → a < 4 → IsShareWord d ino idx row.page fresh a → ⊥
  share_high a low said = high_word a low (disk.item_word d ino idx row fresh may a said)

tail_small : (pages : List ℕ) (n : ℕ) → length pages ≡ (n + 62) / 63 → ((k : ℕ) → k < length pages → slice_index pages k < 65536)
    → tail_at pages n < 4194304
tail_small pages zero fits small = omega arith
tail_small pages (suc n) fits small = let page = small (n / 63) (omega (arith, fits)) in omega (arith, page)

fresh_small : (fresh : Option ℕ) → ((p : ℕ) → Contains (taken_pages fresh) p → p < 65536) → IfSome fresh (λ page. page < 65536)
fresh_small None small = tt
fresh_small (Some p) small = small p (0, omega arith, refl)

-- by the number of pages that it is equal to
pub remapped_by : (n : NewPlace) (m : KeptMapping) (more long slot : ℕ) (b b' : Parts) → more ≡ long → RemapsPart n m more slot b b'
    → RemapsPart n m long slot b b'
remapped_by n m more long slot b b' same = subst (λ (k : ℕ). RemapsPart n m k slot b b') same

module _ {D F : Type 0} (state : D → State) (w : Volume D F) (sharing : Sharing) (begun : w.parts.sharing ≡ Some sharing) (slot : ℕ)
    (step : sharing.step ≡ Remap slot) (n : NewPlace) (is : (d : Disk) → IsVolume d w.parts (state w.device) → IsNewPlace d sharing slot n)
    (free' : FreePages) (fresh : Option ℕ) (takes : TakesFor n.tail w.parts.free free' fresh) where
  -- a begun item is work, and nobody holds it up
  pub remap_work : (d : Disk) → MayWork (daemon_stand d w.parts)
  remap_work d = record {
    some = λ rests. clash w.parts.sharing rests.none_begun begun;
    loose = λ holder held. clash w.parts.sharing held.none_begun begun;
  }
    where
      clash : (o : Option Sharing) → o ≡ None → o ≡ Some sharing → ⊥
      clash o none some = cc

  module _ (d : Disk) (v : IsVolume d w.parts (state w.device)) where
    abbrev at : IsNewPlace d sharing slot n
    at = is d v

    may : MayShare d n.ino n.idx at.row (taken_pages fresh)
    may = may_share d w.parts (state w.device) v sharing begun slot step n at free' fresh takes

    ready : IsReadyToShare w.parts.geometry n.ino n.idx n.size n.page (taken_pages fresh) d at.row (state w.device)
    ready = record { geometry = v.fast.geometry; may = may; stands = v.fast.stands; page_is = at.page; size_is = at.size }

    paged : IsPaged d.geometry (d.inode n.ino).log
    paged = (v.fast.valid.logs n.ino may.in_table (share_used d n.ino n.idx at.row (taken_pages fresh) may)).paged

    few : d.geometry.pages ≤ 65536
    few = v.fast.valid.accepted.few_pages

    was_in : n.was < d.geometry.pages
    was_in = (read_in_data d v.fast.valid n.was (inl (was_mapped d w.parts (state w.device) v sharing begun slot step n at))).high

  module _ (agrees : Agrees state w) (running : w.parts.stopped ≡ false) where
    abbrev found : (d : Disk) × IsVolume d w.parts (state w.device)
    found = running_disk state w running agrees

    pub remap_ino : n.ino < w.parts.geometry.inodes
    remap_ino = subst (λ (i : ℕ). i < w.parts.geometry.inodes) (sym (at found.0 found.1).ino)
        (ino_in found.0 w.parts (state w.device) found.1 sharing begun slot step)

    pub remap_node : n.ino < length w.parts.inodes.items
    remap_node = subst (λ (i : ℕ). i < length w.parts.inodes.items) (sym (at found.0 found.1).ino)
        (node_there found.0 w.parts (state w.device) found.1 sharing begun slot step)

    pub remap_idx : n.idx < 4096
    remap_idx = subst (λ (j : ℕ). j < 4096) (sym (at found.0 found.1).idx)
        (idx_small found.0 w.parts (state w.device) found.1 sharing begun slot step)

    pub remap_can : CanShare w.parts.geometry n.ino n.idx n.size n.page (taken_pages fresh) (state w.device)
    remap_can = record { disk = found.0; row = (at found.0 found.1).row; is = ready found.0 found.1 }

    pub remap_room : REMAP_UNITS ≤ (state w.device).spare
    remap_room = remap_spare found.0 w.parts (state w.device) found.1 sharing begun slot step

    pub remap_units : REMAP_UNITS ≤ w.parts.owed.units
    remap_units = remap_owes found.0 w.parts (state w.device) found.1 sharing begun slot step

    pub remap_tail : n.tail < 4194304
    remap_tail = subst (λ (t : ℕ). t < 4194304) (at found.0 found.1).tail
        (tail_small (found.0.inode n.ino).log.pages (count (found.0.inode n.ino).log) (paged found.0 found.1).fits
        (λ k lt. let high = ((paged found.0 found.1).in_data k lt).high in omega (arith, high, few found.0 found.1)))

    pub remap_fresh : IfSome fresh (λ page. page < 65536)
    remap_fresh = fresh_small fresh (λ p has.
        let high = (fresh_unused found.0 w.parts (state w.device) found.1 sharing begun slot step n (at found.0 found.1) free' fresh takes p
        has).free.data_page.high in omega (arith, high, few found.0 found.1))

    its : AreTaken (taken_pages fresh) w.parts.free free'
    its = taken found.0 w.parts (state w.device) found.1 sharing begun slot step n (at found.0 found.1) free' fresh takes

    pub remap_below : n.was < free'.pages
    remap_below = omega (arith, was_in found.0 found.1, its.pages, found.1.space.pages)

    pub remap_taken : Contains free'.free n.was → ⊥
    remap_taken has = not_was found.0 w.parts (state w.device) found.1 sharing begun slot step n (at found.0 found.1) n.was
        ((found.1.space.free n.was).0 (its.back n.was has)).0.free (sym (at found.0 found.1).was)

    pub remap_there : (node : InodeState) → slice_get w.parts.inodes.items n.ino ≡ Some node → IsSome (get node.map.map n.idx)
    remap_there node there =
        let mapped = kept_at found.0 w.parts (state w.device) found.1 sharing begun slot step node
        (ap (slice_get w.parts.inodes.items) (sym (at found.0 found.1).ino) ∙ there) in
        subst (λ (r : Option KeptMapping). IsSome r) (sym (ap (get node.map.map) (at found.0 found.1).idx ∙ mapped)) refl

    pub remap_long : (node : InodeState) → slice_get w.parts.inodes.items n.ino ≡ Some node
        → node.log_pages + length (taken_pages fresh) < 2 ^ 64
    remap_long node there =
        let long = (found.1.inodes.each n.ino node there).log_pages (share_used found.0 n.ino n.idx (at found.0 found.1).row (taken_pages fresh)
        (may found.0 found.1)) in
        let most = log_few found.0.geometry (found.0.inode n.ino).log (paged found.0 found.1) in
        omega (arith, long, most, few found.0 found.1, its.few)

    pub remap_few : sharing.count < 2 ^ 32
    remap_few = item_few found.0 found.1.fast.valid sharing (found.1.sharing sharing begun).begun

  module _ (print : Print) (w' : Volume D F)
      (images : SharesBetween w.parts.geometry n.ino n.idx n.size n.page (taken_pages fresh) (state w.device) (state w'.device))
      (only : SharesThere w.parts.geometry n.ino n.idx n.size n.page (taken_pages fresh) (state w.device) (state w'.device))
      (faults : (state w.device).faults ≤ (state w'.device).faults) (d : Disk) (v : IsVolume d w.parts (state w.device)) where
    abbrev e : Disk
    e = shared_disk d n.ino n.idx (at d v).row.page (taken_pages fresh)

    own_on : IsOwn print d → IsOwn print e
    own_on = own_kept d n.ino n.idx (at d v).row (taken_pages fresh) (may d v) print

    between : LeavesOnly (state w.device) (state w'.device) (IsBetween print d e)
    between = old_or_new print d e (state w.device) (state w'.device) own_on (images d (at d v).row (ready d v))

    quiet : IsSameFiles (files e) (files d)
    quiet = (keeps_files d n.ino n.idx (at d v).row (taken_pages fresh) (may d v)).files_same

    stores : SharesOnly n.ino n.idx (at d v).row.page (taken_pages fresh) d (state w.device) (state w'.device)
    stores = only d (at d v).row (ready d v)

    module _ (stops : Stops w.parts w'.parts) where
      pub remap_stops : Agrees state w'
      remap_stops = is_stopped (stopped_after state w w' d v stops _ stores.only (share_high d n.ino n.idx (at d v).row (taken_pages fresh) (may d
          v)))

      pub remap_breaks : Rose (state w.device).faults (state w'.device).faults → Breaks state print 15 None w w' d
      remap_breaks rose = breaks_at state w w' d v stops _ stores.only (share_high d n.ino n.idx (at d v).row (taken_pages fresh) (may d v)) print
          15
          e between quiet faults rose

    module _ (done : SharesNew w.parts.geometry n.ino n.idx n.size n.page (taken_pages fresh) (state w.device) (state w'.device))
        (own : SettlesAll 15 (state w.device) (state w'.device)) (spare : (state w.device).spare ≤ (state w'.device).spare + REMAP_UNITS)
        (item : ℕ) (item_is : IsItemSlot n.tail (taken_pages fresh) item)
        (change : RemapsPart n (record { block = n.page; slot = item; bit = 0 }) (length (taken_pages fresh)) slot (record w.parts { free = free' })
        w'.parts) where
      volume : IsVolume e w'.parts (state w'.device)
      volume = remap_volume d w.parts (state w.device) v sharing begun slot step n (at d v) free' fresh takes item item_is w'.parts change
          (state w'.device) (done d (at d v).row (ready d v)) stores own spare

      pub remap_moves : MovesOn state print 15 w w' d
      remap_moves = record {
        after = e;
        moves = record {
          volume = volume;
          images = between;
          own = own_on;
          accounts = λ has. disk.share_accounts d n.ino n.idx (at d v).row (taken_pages fresh) (may d v) print;
          alone = λ me. absurd (omega (arith, me));
          traces = record {
            more = [];
            trace = ap (λ (t : _). t.items) change.trace ∙ sym (append-nil w.parts.trace.items);
            words = λ x. ap (λ (rs : List Row). word_in rs x) (disk.rows_still d n.ino n.idx (at d v).row (taken_pages fresh) (may d v));
          };
          others = remap_others d w.parts (state w.device) v sharing begun slot step n (at d v) free' fresh takes item item_is w'.parts change
              (state w'.device) (done d (at d v).row (ready d v)) stores own spare;
          counts = change.made;
          geometry = change.geometry;
          faults = faults;
        };
        quiet = quiet;
        ops = ops_same w.parts w'.parts (ap (λ (fs : _). fs.items) change.flights);
        history = ap (λ (h : _). h.items) change.history;
      }

      pub remap_agrees : Agrees state w'
      remap_agrees = agrees_with e volume

      less_test : (x y : ℕ) → x < y → nat_lt x y ≡ true
      less_test x y lt = grind (arith, nat_tests, lt)

      some_done : sharing.done < sharing.count
      some_done = (to_remap d w.parts (state w.device) v sharing begun slot step).some

      pub remap_lowers : DaemonLowers w.parts w'.parts (sharing_events w'.parts.sharing)
      remap_lowers = record {
        left_is = refl;
        less =
            let queued = ap (λ (q : _). length q.items) change.queue in
            let test = less_test sharing.done sharing.count some_done in
            let was = ap (λ (o : Option Sharing). sharing_events o) begun
            ∙ ap (λ (t : Bool). if t then 3 * (sharing.count - sharing.done - 1) + step_events sharing.step + 1 else 1) test
            ∙ ap (λ (st : SharingStep). 3 * (sharing.count - sharing.done - 1) + step_events st + 1) step in
            let now = ap (λ (o : Option Sharing). sharing_events o) (change.sharing sharing begun)
            ∙ ap (λ (t : Bool). if t then 3 * (sharing.count - sharing.done - 1) + 1 + 1 else 1) test in
            omega (arith, queued, was, now);
        waiting = ap (λ (r : _). r.waiting) change.reclaiming;
        pages =
            let its' = taken d w.parts (state w.device) v sharing begun slot step n (at d v) free' fresh takes in
            used_less w.parts w'.parts (change.free.pages ∙ its'.pages) (omega (arith, change.free.count, its'.long, its'.few))
            (ap (λ (r : _). r.cleaning) change.reclaiming);
      }
