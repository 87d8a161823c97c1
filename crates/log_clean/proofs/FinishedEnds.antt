-- A cleaning ends, or a fence of its end failed: the event, from what its calls give.
use Rattle.std.proofs.Common.{◌≡◌, inl, inr, ℕ, ◌+◌, ◌*◌, ◌<◌, ◌≤◌, List, [], ◌∷◌, length, refl, sym, ◌∙◌, ap, subst, arith}
use Rattle.std.specs.Prelude.{◌++◌, Option, Some, None, Contains}
use Rattle.std.proofs.lemmas.List.{append-nil, length-append, length-map}
use Rattle.pm_device.specs.State.{State, Rose}
use Rattle.pm_layout.specs.declared.Geometry.{Geometry}
use Rattle.pm_layout.specs.Geometry.{IsAccepted}
use Rattle.dedupe_queue.specs.declared.Work.{Work}
use Rattle.page_alloc.specs.Free.{FreePages}
use Rattle.page_alloc.proofs.FreeLaws.{length-free_le}
use Rattle.dn_model.specs.Disk.{Disk}
use Rattle.dn_model.specs.Own.{Print}
use Rattle.log_replace.specs.CleanedLaws.{cleaned_disk, MayClean}
use Rattle.log_replace.specs.Replacing.{IsEndWord}
use Rattle.log_replace.proofs.CleanedDisk.{cleaned_own, cleaned_files}
use Rattle.dn_volume.specs.declared.background.Cleaning.{Cleaning}
use Rattle.dn_volume.specs.declared.volume.Parts.{Parts}
use Rattle.dn_volume.specs.declared.volume.Volume.{Volume}
use Rattle.dn_volume.specs.Agrees.{IsVolume, HasHead}
use Rattle.dn_volume.specs.Events.{MovesOn, Breaks}
use Rattle.dn_volume.specs.Works.{CleanLowers, DaemonRests, MayWork, clean_stand}
use Rattle.dn_volume.proofs.Kept.{ops_same}
use Rattle.dn_volume.proofs.Heads.{head_of, head_kept}
use Rattle.count_events.specs.Released.{Stops}
use Rattle.reclaim.specs.Worked.{Gives}
use Rattle.log_clean.specs.Finishing.{due_works, EndsCleaning}
use Rattle.log_clean.proofs.Begun.{begun_works, names_stopped, stops_others}
use Rattle.log_clean.proofs.DueSlots.{due_waits, due_few, due_none}
use Rattle.log_clean.proofs.FinishedHands.{taken_out, none_now, kept_counted, others_same}
use Rattle.log_clean.proofs.FinishedPages.{may_clean_it, fewer}
use Rattle.log_clean.proofs.FinishedRest.{accounts_then, alone_then, words_then}
use Rattle.log_clean.proofs.FinishedVolume.{SwapsOn, SwapsWhole, swapped_images, swapped_volume}
use Rattle.log_clean.proofs.FinishedWork.{ends_less}

-- the cleaning was taken out, and these pages are free
abbrev pub with_taken : Parts → FreePages → Option Cleaning → Parts
with_taken b f x = record b { free = f; reclaiming = record b.reclaiming { cleaning = x } }

pub ends_taken : (b : Parts) (f : FreePages) (x : Option Cleaning) (c : Cleaning) (b' : Parts) → x ≡ None → EndsCleaning c (with_taken b f x) b'
    → EndsCleaning c (taken_out b f) b'
ends_taken b f x c b' none = subst (λ (y : Option Cleaning). EndsCleaning c (with_taken b f y) b') none

module _ {D F : Type 0} (state : D → State) (w : Volume D F) (c : Cleaning) (cleans : w.parts.reclaiming.cleaning ≡ Some c)
    (written : length c.pages.items ≤ c.written) (print : Print) (d : Disk) (v : IsVolume d w.parts (state w.device)) (w' : Volume D F)
    (swaps : SwapsOn w.parts.geometry c (state w.device) (state w'.device)) where
  abbrev e : Disk
  e = cleaned_disk d c.ino c.pages.items

  abbrev may : MayClean d c.ino c.pages.items
  may = may_clean_it d w.parts (state w.device) c v cleans

  high : (a : ℕ) → a < 4 → IsEndWord c.ino a → ⊥
  high a low (inl head) = omega (arith, low, head)
  high a low (inr (inl tail)) = omega (arith, low, tail)
  high a low (inr (inr journal)) = omega (arith, low, journal.0)

  pub finish_breaks : (f : FreePages) (x : Option Cleaning) → Stops (with_taken w.parts f x) w'.parts
      → Rose (state w.device).faults (state w'.device).faults → Breaks state print 16 None w w' d
  finish_breaks f x stops rose = record {
    stopped = record {
      stopped = stops.stopped;
      accepted = subst IsAccepted (v.fast.geometry ∙ sym stops.geometry) v.fast.valid.accepted;
      long = swaps.only.words ∙ v.fast.long ∙ ap (λ (g : Geometry). 512 * g.pages) (v.fast.geometry ∙ sym stops.geometry);
      head = head_kept (IsEndWord c.ino) w'.parts.geometry (state w.device) (state w'.device) high swaps.only
          (subst (λ (g : Geometry). HasHead g (state w.device).now) (sym stops.geometry) (head_of d w.parts.geometry (state w.device) v.fast));
      trace = names_stopped (with_taken w.parts f x) w'.parts stops v.trace;
    };
    after = e;
    images = swapped_images d w.parts (state w.device) c v cleans written (state w'.device) swaps print;
    rose = rose;
    quiet = λ none. cleaned_files d c.ino c.pages.items may;
    ops = ops_same w.parts w'.parts stops.flights;
    answering = λ op none. cc;
    answered = λ op none. cc;
    others =
        let rest = stops_others (with_taken w.parts f x) w'.parts stops in
        record { flights = rest.flights; sharing = rest.sharing; cleaning = λ other. absurd (other refl) };
    trace = record { more = []; trace = stops.trace ∙ sym (append-nil w.parts.trace.items) };
    history = stops.history;
    geometry = stops.geometry;
    counts = stops.made;
    faults = swaps.faults;
  }

  module _ (whole : SwapsWhole w.parts.geometry c (state w.device) (state w'.device)) (f : FreePages)
      (gives : Gives (Contains (d.inode c.ino).log.pages) w.parts.free f)
      (more : length f.free ≡ length w.parts.free.free + length (d.inode c.ino).log.pages)
      (ends : EndsCleaning c (taken_out w.parts f) w'.parts) where
    pub finish_moves : MovesOn state print 16 w w' d
    finish_moves = record {
      after = e;
      moves = record {
        volume = swapped_volume d w.parts (state w.device) c v cleans written (state w'.device) swaps whole f gives more w'.parts ends
            (due_waits d w.parts (state w.device) v c cleans);
        images = swapped_images d w.parts (state w.device) c v cleans written (state w'.device) swaps print;
        own = cleaned_own print d c.ino c.pages.items may;
        accounts = λ own. accounts_then d c.ino c.pages.items may print;
        alone = λ him. alone_then d c.ino c.pages.items may;
        traces = record {
          more = [];
          trace = ap (λ (x : _). x.items) ends.trace ∙ sym (append-nil w.parts.trace.items);
          words = words_then d c.ino c.pages.items may;
        };
        others = others_same w.parts w'.parts c f cleans ends;
        counts = ends.made;
        geometry = ends.geometry;
        faults = swaps.faults;
      };
      quiet = cleaned_files d c.ino c.pages.items may;
      ops = ops_same w.parts w'.parts (ap (λ (fs : _). fs.items) ends.flights);
      history = ap (λ (x : _). x.items) ends.history;
    }

    pub finish_lowers : w.parts.reclaiming.waiting ≡ 0 → CleanLowers w.parts w'.parts 0
    finish_lowers none = ends_less c (length (d.inode c.ino).log.pages) w.parts w'.parts (record {
      cleans = cleans;
      ended = none_now w.parts w'.parts c f cleans ends;
      none_waited = none;
      none_waits = (kept_counted w.parts w'.parts c f cleans ends).waiting ∙ none;
      sharing = ends.sharing;
      queue = long;
      due_few = due_few d w.parts (state w.device) v c cleans;
      pages = ap (λ (x : FreePages). x.pages) ends.free ∙ gives.pages;
      free = ap (λ (x : FreePages). length x.free) ends.free ∙ more;
      fewer = fewer d w.parts (state w.device) c v cleans;
      some =
          let most = length-free_le f gives.in_order in
          let less = fewer d w.parts (state w.device) c v cleans in
          let same = gives.pages in
          omega (arith, most, more, less, same);
      rests = rests_then;
      trace = ap (λ (x : _). x.items) ends.trace;
    })
      where
        long : length w'.parts.queue.items ≡ length w.parts.queue.items + length c.due.items
        long = ap (λ (ws : List Work). length ws) ends.queue.items ∙ length-append w.parts.queue.items works
            ∙ ap (λ (n : ℕ). length w.parts.queue.items + n) (length-map c.due.items _)
          where
            works : List Work
            works = due_works c.ino ends.queue.node.round c.due.items

        rests_then : DaemonRests w.parts → w'.parts.queue.items ≡ []
        rests_then rests = ends.queue.items ∙ both w.parts.queue.items c.due.items rests.none_waits
            (due_none d w.parts (state w.device) v c cleans rests)
          where
            both : (ws : List Work) (slots : List ℕ) → ws ≡ [] → slots ≡ [] → ws ++ due_works c.ino ends.queue.node.round slots ≡ []
            both [] [] none_w none_s = refl
            both [] (x ∷ xs) none_w none_s = cc
            both (x ∷ xs) slots none_w none_s = cc

    pub finish_works : w.parts.reclaiming.waiting ≡ 0
        → MovesOn state print 16 w w' d × MayWork (clean_stand w.parts) × CleanLowers w.parts w'.parts 0
    finish_works none = (finish_moves, begun_works w.parts c cleans, finish_lowers none)
