-- A cleaning ends: which pages are free and taken then, and how many.
use Rattle.std.proofs.Common.{◌≡◌, ℕ, ◌+◌, ◌*◌, ◌<◌, ◌≤◌, List, length, refl, sym, ◌∙◌, ap, subst, arith}
use Rattle.std.specs.Prelude.{Some, All, Contains}
use Rattle.pm_device.specs.State.{State}
use Rattle.page_alloc.specs.Free.{FreePages, IsInOrder}
use Rattle.dn_model.specs.Log.{count}
use Rattle.dn_model.specs.Disk.{Disk, IsUsed}
use Rattle.law_write.specs.Events.{IsUnused}
use Rattle.law_table.proofs.Rows.{all_listed}
use Rattle.law_log_swap.proofs.Relogged.{same_geometry}
use Rattle.law_clean.specs.Cleaned.{cleaned_log}
use Rattle.log_replace.specs.CleanedLaws.{MayClean, cleaned_disk}
use Rattle.dn_volume.specs.declared.background.Cleaning.{Cleaning}
use Rattle.dn_volume.specs.declared.volume.Parts.{Parts}
use Rattle.dn_volume.specs.Parties.{Takes, for_cleaning}
use Rattle.dn_volume.specs.Agrees.{IsVolume}
use Rattle.dn_volume.specs.Cleans.{IsCleaning, new_log}
use Rattle.dn_volume.specs.Space.{HasSpace}
use Rattle.dn_volume.proofs.Lefts.{two_left}
use Rattle.reclaim.specs.Worked.{Gives}
use Rattle.log_clean.specs.Finishing.{EndsCleaning}
use Rattle.log_clean.proofs.FinishedDisk.{unused_kept, unused_old, unused_before, new_used}
use Rattle.log_clean.proofs.FinishedHands.{taken_out, of_cleaning, takes_on, takes_back, takes_mine}
use Rattle.log_clean.proofs.FinishedSpace.{SwapsSpace, space_swapped}
use Rattle.log_clean.proofs.FinishedWalk.{old_used}

module _ (d : Disk) (b : Parts) (s : State) (c : Cleaning) (v : IsVolume d b s) (cleans : b.reclaiming.cleaning ≡ Some c) where
  abbrev e : Disk
  e = cleaned_disk d c.ino c.pages.items

  abbrev old : List ℕ
  old = (d.inode c.ino).log.pages

  is : IsCleaning d c s
  is = v.cleaning c cleans

  pub live_used : IsUsed (d.inode c.ino).use_of
  live_used = subst IsUsed (sym is.live) tt

  pub new_unused : (page : ℕ) → Contains c.pages.items page → IsUnused d page
  new_unused page has = v.space.unused page (λ none. let his = v.space.takes 16 page (mine page has) in omega (arith, his, none))
    where
      mine : (p : ℕ) → Contains c.pages.items p → Takes b 16 p
      mine p has = for_cleaning c refl cleans has

  pub may_clean_it : MayClean d c.ino c.pages.items
  may_clean_it = record {
    valid = v.fast.valid;
    in_table = is.in_table;
    live = is.live;
    worth = is.worth;
    paged = is.paged;
    unused = new_unused;
  }

  pub counted : count (new_log d c) ≡ length c.slots.items
  unfolding count
  counted = ap (λ (xs : List (List ℕ)). length xs) is.slots

  -- the pages of the new log just hold its slots
  pub slots_fit : length c.slots.items ≤ 63 * length c.pages.items
  slots_fit = let fits = is.paged.fits in let n = counted in omega (arith, fits, n)

  pub pages_small : All (λ (page : ℕ). page < 65536) c.pages.items
  pages_small = all_listed (λ (page : ℕ). page < 65536) c.pages.items (λ page has.
      let high = (new_unused page has).free.data_page.high in let few = v.fast.valid.accepted.few_pages in omega (arith, high, few))

  -- and are half of the old one's at most
  pub fewer : length c.pages.items < length old
  unfolding count
  fewer = let fits = is.paged.fits in let two = is.worth.two in let half = is.worth.half in omega (arith, fits, two, half)

  module _ (f : FreePages) (gives : Gives (Contains old) b.free f) (more : length f.free ≡ length b.free.free + length old) where
    pub two_free : 2 ≤ length f.free
    two_free = let two = is.worth.two in omega (arith, two, more)

    module _ (b' : Parts) (ends : EndsCleaning c (taken_out b f) b') where
      swaps_space : SwapsSpace d e b b' c.pages.items old
      swaps_space = record {
        geometry = same_geometry d c.ino (cleaned_log c.ino (d.inode c.ino).log c.pages.items);
        free_pages = ap (λ (x : FreePages). x.pages) ends.free ∙ gives.pages;
        in_order = subst IsInOrder (sym ends.free) gives.in_order;
        free = λ page. (
          (λ there. (gives.free page).0 (subst (λ (x : FreePages). Contains x.free page) ends.free there)),
          (λ were. subst (λ (x : FreePages). Contains x.free page) (sym ends.free) ((gives.free page).1 were)),
        );
        takes = takes_back b b' c f cleans ends d s v;
        taken = takes_on b b' c f cleans ends;
        mine = takes_mine b b' c f cleans ends d s v;
        unused = λ page was out. unused_kept d c.ino c.pages.items may_clean_it page was out;
        unused_old = unused_old d c.ino c.pages.items may_clean_it;
        before = unused_before d c.ino c.pages.items may_clean_it;
        new_used = new_used d c.ino c.pages.items may_clean_it;
        old_used = old_used d b s v c.ino is.in_table live_used;
        of_cleaning = of_cleaning b b' c f cleans ends;
        some = let same = ap (λ (x : FreePages). length x.free) ends.free in let two = two_free in omega (arith, same, two);
        left = two_left b' (subst IsInOrder (sym ends.free) gives.in_order)
            (let same = ap (λ (x : FreePages). length x.free) ends.free in let two = two_free in omega (arith, same, two));
      }

      pub space_then : HasSpace e b'
      space_then = space_swapped d e b b' c.pages.items old swaps_space v.space
